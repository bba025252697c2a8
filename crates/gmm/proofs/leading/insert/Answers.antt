-- `leading::insert` meets its contract: with room for one more (`insert_more`), with the last one lost (`insert_last`), or with p lost itself (`insert-none`, all in
-- Sliding.antt).
use native.Mathlib.Omega.{arith}
use Rattle.gmm.proofs.Sliding.{falls_less, insert_more, insert_last, insert-none}
use Rattle.gmm.proofs.leading.insert.Goals as goal

pub returns-then-n-num_gselect-clause-inserted : goal.returns-then-n-num_gselect-clause-inserted
returns-then-n-num_gselect-clause-inserted c =
    let s = c.put_in_order.ensures in
    let q = c.requires in
    insert_more _ _ _ _ _ _ _ q.few q.places.0 q.places.1 c.if-n-num_gselect.true s.2 s.0 s.1

pub put_in_order-requires-then-enters : goal.put_in_order-requires-then-enters
put_in_order-requires-then-enters c =
    let q = c.requires in
    let e = c.enters.ensures.0 c.if-enters.true in
    (omega (arith, q, e), omega (arith, q, e), falls_less _ _ _ (omega arith) q.in_order)

pub returns-then-enters-clause-inserted : goal.returns-then-enters-clause-inserted
returns-then-enters-clause-inserted c =
    let s = c.put_in_order-then-enters.ensures in
    let q = c.requires in
    let e = c.enters.ensures.0 c.if-enters.true in
    insert_last _ _ _ _ _ _ _ q.few q.places.0 q.places.1 c.if-n-num_gselect.false e.0 e.1 s.2 s.0 s.1

pub returns-clause-inserted : goal.returns-clause-inserted
returns-clause-inserted c =
    let q = c.requires in
    insert-none _ _ _ _ _ _ q.few q.places.0 q.places.1 c.if-n-num_gselect.false (c.enters.ensures.1 c.if-enters.false)
