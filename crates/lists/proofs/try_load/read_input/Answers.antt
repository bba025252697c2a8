-- `read_input` meets its contract: it is the definition's input with each number up to 2^32, which tells no more (`capped_is` in Inputs.antt).
use Rattle.std.proofs.Common.{◌∙◌, rules}
use Rattle.loops.specs.Refusal.{first_of}
use Rattle.lists.specs.Input.{closing}
use Rattle.lists.specs.Inner.TryLoad.{capped_numbers, capped_of}
use Rattle.lists.proofs.Inputs.{capped_is}
use Rattle.lists.proofs.try_load.read_input.Goals as goal

pub returns-in_err-need : goal.returns-in_err-need
unfolding capped_of capped_numbers closing first_of
returns-in_err-need c = search rules ∙ capped_is c.args.text.now

pub returns-in_err-seed : goal.returns-in_err-seed
unfolding capped_of capped_numbers closing first_of
returns-in_err-seed c = search rules ∙ capped_is c.args.text.now

pub returns-in_err-dim : goal.returns-in_err-dim
unfolding capped_of capped_numbers closing first_of
returns-in_err-dim c = search rules ∙ capped_is c.args.text.now

pub returns-in_err-count : goal.returns-in_err-count
unfolding capped_of capped_numbers closing first_of
returns-in_err-count c = search rules ∙ capped_is c.args.text.now

pub returns-in_err-need-2 : goal.returns-in_err-need-2
unfolding capped_of capped_numbers closing first_of
returns-in_err-need-2 c = search rules ∙ capped_is c.args.text.now

pub returns-in_err-size_refusal : goal.returns-in_err-size_refusal
unfolding capped_of capped_numbers closing first_of
returns-in_err-size_refusal c = search rules ∙ capped_is c.args.text.now

pub returns : goal.returns
unfolding capped_of capped_numbers closing first_of
returns c = search rules ∙ capped_is c.args.text.now
