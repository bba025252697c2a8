-- `session` meets its contract, by its three ways out (Ends.antt): a load that is refused, a list or a stream that is refused, and calls that are played.
use mathlib.Core.Path.{sym}
use mathlib.Core.List.{List}
use lib.ListN.{length}
use Rattle.definition.specs.Model.{Files, Tables, tables_from}
use Rattle.definition.specs.Machine.{Call}
use Rattle.program.specs.Session.{Program}
use Rattle.stream.specs.Stream.{program_of}
use Rattle.model.specs.Load.{files_of}
use Rattle.lists.specs.Listed.{calls, Written, written}
use Rattle.session.proofs.Ends.{load_ends, session_played, session_refused}
use Rattle.session.proofs.session.Goals.{Start}
use Rattle.session.proofs.session.Goals as goal

-- what is given and lent, at the start
abbrev files : Start → Files
files c = let a = c.args in files_of a.gmm.now a.extractor.now a.lda.now a.cmvn.now

abbrev tables : Start → Tables
tables c =
    let a = c.args in
    tables_from a.gconsts.now a.means_invvars_t.now a.inv_vars_t.now a.sigma_inv_m.now a.u.now a.lda_t.now a.lda_offset.now a.global_mean_stats.now

abbrev begun : Start → Program
begun c = program_of c.args.stream.now

abbrev list : Start → List Call
list c = let a = c.args in calls a.list.kinds.now a.list.numbers.now a.list.lists.now a.list.samples.now (length a.outs.now)

abbrev rooms-for : Start → Written
rooms-for c = written c.args.answers.now c.args.outs.now

pub returns-in-Err-clause-session : goal.returns-in-Err-clause-session
returns-in-Err-clause-session c =
    let a = c.args in
    let s = (goal.at.returns-in-Err-clause-session c).Start in
    let e = load_ends a.opts (files s) (tables s) (length a.load_scratch.now) (begun s) (length a.stream.now.scratch.now) (list s) a.list.numbers.now
    (length a.list.kinds.now) (length a.list.numbers.now) (length a.answers.now) (rooms-for s) c.in-Err.refusal (sym c.in-Err.ensures.0) in
    (e.0, e.1, c.load-loaded.ensures.1, e.2)

pub returns-in-Ok-ran-clause-session : goal.returns-in-Ok-ran-clause-session
returns-in-Ok-ran-clause-session c =
    let a = c.args in
    let s = (goal.at.returns-in-Ok-ran-clause-session c).Start in
    let h = c.in-Ok-ran.ensures.run in
    let e = session_played a.opts (files s) (tables s) (length a.load_scratch.now) (begun s) (length a.stream.now.scratch.now) (list s) a.list.numbers.now
    (length a.list.kinds.now) (length a.list.numbers.now) (length a.answers.now) (rooms-for s) c.in-Ok.info _ c.in-Ok.ensures.0 c.load-loaded.ensures.1 _ _ (h.0, h.1, h.2) in
    (e.0, e.1, c.load-loaded.ensures.1, e.2)

pub returns-in-Err-ran-clause-session : goal.returns-in-Err-ran-clause-session
returns-in-Err-ran-clause-session c =
    let a = c.args in
    let s = (goal.at.returns-in-Err-ran-clause-session c).Start in
    let h = c.in-Err-ran.ensures.run in
    let e = session_refused a.opts (files s) (tables s) (length a.load_scratch.now) (begun s) (length a.stream.now.scratch.now) (list s) a.list.numbers.now
    (length a.list.kinds.now) (length a.list.numbers.now) (length a.answers.now) (rooms-for s) c.in-Ok.info _ c.in-Ok.ensures.0 c.load-loaded.ensures.1 _ _ c.in-Err-ran.refusal (h.0, h.1, h.2) in
    (e.0, e.1, c.load-loaded.ensures.1, e.2)
