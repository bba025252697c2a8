-- `value_of` meets its contract: a turn is `decimal_next` and `decimal_cap`, the end `decimal_end` (Decimals.antt).
use Rattle.std.proofs.Common.{◌≡◌, ℕ, ◌+◌, ◌*◌, ◌-◌, min, ap, sym, ◌∙◌, arith, drop, get_or}
use Rattle.definition.specs.Text.{digits_value}
use Rattle.kaldi.proofs.Decimals.{decimal_next, decimal_cap, decimal_end}
use Rattle.kaldi.proofs.kaldi_text.value_of.Goals as goal

pub loop-b-preserved : goal.loop-b-preserved
loop-b-preserved c =
    let a = c.args in
    let s = a.digits.now in
    let i = c.loop-b.b-index in
    let y = c.loop-b.x * 10 + (get_or s i 0 - 48) in
    let e : c.min-x.result ≡ min y a.cap = omega arith in
    record {
      capped = omega arith;
      so_far = c.loop-b.invariant.so_far
          ∙ ap (λ (n : ℕ). min n a.cap) (decimal_next c.loop-b.x i s (omega arith))
          ∙ sym (decimal_cap y a.cap (drop (i + 1) s))
          ∙ ap (λ (n : ℕ). min (digits_value n (drop (i + 1) s)) a.cap) (sym e);
    }

pub returns : goal.returns
returns c =
    let l = c.loop-b in
    let e : min l.x c.args.cap ≡ l.x = omega arith in
    sym (l.invariant.so_far ∙ ap (λ (n : ℕ). min n c.args.cap) (decimal_end l.x l.b-index c.args.digits.now (omega arith)) ∙ e)
