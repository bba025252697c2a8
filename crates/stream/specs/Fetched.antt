-- A fetch's batch, by the definition's words.
use Rattle.definition.specs.Model.{Model, model}
use Rattle.definition.specs.Lent.{tables_in}
use Rattle.definition.specs.Views.{Frames}
use Rattle.definition.specs.Changes.{Batch}
use Rattle.program.specs.Rooms.{ring_frames}
use Rattle.stream.specs.declared.ivector_batch.batch.FetchBatch.{FetchBatch}
use Rattle.stream.specs.declared.ivector_batch.batch.TakenBatch.{TakenBatch}
use Rattle.stream.specs.Inner.IvectorBatch.{batch_in}

abbrev pub model_of : FetchBatch → Model
model_of b = model b.info (tables_in b.tables)

abbrev pub frames_of : FetchBatch → Frames
frames_of b = ring_frames b.info.dims.base_dim b.intake.accepted b.held.frames.now b.held.rows.now

abbrev pub whole_of : FetchBatch → Batch
whole_of b = batch_in b.info.opts b.intake

-- the same of a batch that is asked for less
abbrev pub taken_model : TakenBatch → Model
taken_model b = model b.info (tables_in b.tables)

abbrev pub taken_frames : TakenBatch → Frames
taken_frames b = ring_frames b.info.dims.base_dim b.intake.accepted b.held.frames.now b.held.rows.now

abbrev pub taken_whole : TakenBatch → Batch
taken_whole b = batch_in b.info.opts b.intake
