-- `below_64_bits` meets its contract: a turn is `digits_turn`; where x with the next digit is 2^64 or more, so is the whole number (`digits_over`, both in
-- SettingValues.antt).
use Rattle.std.proofs.Common.{◌≡◌, ℕ, ◌+◌, ◌*◌, ◌-◌, get_or, None, drop, ap, sym, refl, ◌∙◌, arith, rules}
use Rattle.definition.specs.Text.{digits_value}
use Rattle.kaldi.specs.Inner.Settings.{below64}
use Rattle.kaldi.proofs.SettingValues.{digits_turn, digits_over, digits-few}
use Rattle.kaldi.proofs.settings.below_64_bits.Goals as goal

pub returns-in_err-checked_mul : goal.returns-in_err-checked_mul
returns-in_err-checked_mul c =
    let l = c.loop-b in
    let s = c.args.digits.now in
    let n : c.from_residual.result ≡ None = search rules in
    n ∙ digits_over l.x l.b-index s c.loop-b-test.true refl (omega (arith, c.in_err-checked_mul.ensures)) ∙ ap below64 (sym l.invariant.so_far)

pub returns-in_err-x : goal.returns-in_err-x
returns-in_err-x c =
    let l = c.loop-b in
    let s = c.args.digits.now in
    let n : c.from_residual-in_err-x.result ≡ None = search rules in
    n ∙ digits_over l.x l.b-index s c.loop-b-test.true refl (omega (arith, c.in_ok-checked_mul.ensures, c.in_err-x.ensures, c.digit_value.ensures.value)) ∙ ap below64 (sym l.invariant.so_far)

pub loop-b-preserved : goal.loop-b-preserved
loop-b-preserved c =
    let l = c.loop-b in
    let s = c.args.digits.now in
    let e : l.x * 10 + (get_or s l.b-index 0 - 48) ≡ c.in_ok-x.x = omega (arith, c.in_ok-checked_mul.ensures, c.in_ok-x.ensures, c.digit_value.ensures.value) in
    record {
      fits = omega (arith, c.in_ok-x.ensures);
      so_far = l.invariant.so_far ∙ digits_turn l.x l.b-index s c.loop-b-test.true refl ∙ ap (λ (n : ℕ). digits_value n (drop (l.b-index + 1) s)) e;
    }

pub returns : goal.returns
returns c = digits-few c.loop-b.x c.loop-b.b-index c.args.digits.now c.loop-b-test.false c.loop-b.invariant.fits ∙ ap below64 (sym c.loop-b.invariant.so_far)
