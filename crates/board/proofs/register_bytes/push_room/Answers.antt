-- `push_room` meets its contract: the tests of the record, and the counts of what is held, are those of a push of a frame of zeros (Room.antt).
use native.Mathlib.Omega.{arith}
use mathlib.Core.Path.{sym, ap, ◌∙◌}
use mathlib.Core.Bool.{not}
use Rattle.definition.specs.Number.{refused_by}
use Rattle.stream.specs.Stream.{record_of, rings_of}
use Rattle.stream.proofs.Records.{few, some_number}
use Rattle.board.proofs.Room.{held_none, held_is, known, under_ten, room_is}
use Rattle.board.proofs.register_bytes.push_room.Goals as goal

pub returns-in-Err-clause-held : goal.returns-in-Err-clause-held
returns-in-Err-clause-held c =
    held_none (record_of c.args.stream.now) (rings_of c.args.stream.now) (sym (ap refused_by c.in-Err.is) ∙ c.plain_refusal.ensures) (some_number _)

pub returns-in-Err-clause-room : goal.returns-in-Err-clause-room
returns-in-Err-clause-room c =
    under_ten (record_of c.args.stream.now) (rings_of c.args.stream.now) (sym (ap refused_by c.in-Err.is) ∙ c.plain_refusal.ensures) (some_number _)

pub rows_held-rows_held-requires : goal.rows_held-rows_held-requires
rows_held-rows_held-requires c =
    let s = record_of c.args.stream.now in
    let z = rings_of c.args.stream.now in
    let f = few s z (known s z c.plain_refusal.ensures (ap refused_by c.in-Ok.is)) in
    (f.0, f.1)

pub is_full-requires : goal.is_full-requires
is_full-requires c =
    let s = record_of c.args.stream.now in
    let z = rings_of c.args.stream.now in
    omega (arith, (known s z c.plain_refusal.ensures (ap refused_by c.in-Ok.is)).dims_are.some_base)

pub returns-in-Ok-clause-held : goal.returns-in-Ok-clause-held
returns-in-Ok-clause-held c =
    c.frames_held-frames_held.ensures ∙ held_is (record_of c.args.stream.now) (rings_of c.args.stream.now) c.plain_refusal.ensures (ap refused_by c.in-Ok.is)

pub returns-in-Ok-clause-room : goal.returns-in-Ok-clause-room
returns-in-Ok-clause-room c =
    ap not (rw (c.frames_held-frames_held.ensures, c.rows_held-rows_held.ensures) at c.is_full.ensures)
    ∙ room_is (record_of c.args.stream.now) (rings_of c.args.stream.now) c.plain_refusal.ensures (ap refused_by c.in-Ok.is)
