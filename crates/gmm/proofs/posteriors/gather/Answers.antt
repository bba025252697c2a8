-- `posteriors::gather` meets its contract: with all met the few are put in order (`gather_first`, `gather_end` in Gathering.antt), and else they are the first of many
-- (`first_met`).
use mathlib.Core.Path.{ap, ◌∙◌}
use mathlib.Core.List.{List}
use native.Mathlib.Omega.{arith}
use lib.ListN.{take}
use Rattle.definition.specs.Posteriors.{Post}
use Rattle.gmm.specs.Inner.Leading.{posts_in, into}
use Rattle.gmm.proofs.Rooms.{held_none}
use Rattle.gmm.proofs.Gathering.{first_met, gather_first, gather_end}
use Rattle.gmm.proofs.posteriors.gather.Goals as goal

pub returns-then-few-loglikes-clause-gathered : goal.returns-then-few-loglikes-clause-gathered
returns-then-few-loglikes-clause-gathered c =
    let a = c.args in
    let few = c.candidates-few in
    gather_end a.num_gselect a.cutoff a.max_like a.loglikes.now (omega (arith, c.if-few-loglikes.true))
    (c.order.ensures.ordered ∙ ap (λ (r : List Post). take a.num_gselect (into r (posts_in few.result.count few.new.gauss few.new.likes))) (held_none a.chosen.now.gauss.now a.chosen.now.posts.now)
    ∙ gather_first a.num_gselect a.cutoff a.max_like a.loglikes.now few.result.next (first_met a.num_gselect a.cutoff a.max_like a.loglikes.now few.ensures.collected))

pub gather_many-requires-clause-met : goal.gather_many-requires-clause-met
gather_many-requires-clause-met c =
    let a = c.args in
    first_met a.num_gselect a.cutoff a.max_like a.loglikes.now c.candidates-few.ensures.collected
