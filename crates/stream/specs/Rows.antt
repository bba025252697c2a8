-- The views of a frame: the frames of a stream, and the row that an LDA takes.
use Rattle.std.specs.Prelude.{ℕ, Bool, true, false, List, Float}
use Rattle.definition.specs.Views.{Frames, raw_row, normalised_row}
use Rattle.program.specs.Rooms.{ring_frames}
use Rattle.stream.specs.declared.frame_views.view.StreamView.{StreamView}
use Rattle.stream.specs.declared.frame_views.view.Features.{Features}
use Rattle.stream.specs.declared.frame_views.view.Features.TheVariants.{Raw, Normalized}

abbrev pub frames_of : StreamView → Frames
frames_of v = ring_frames v.dim v.accepted v.frames.now v.rows.now

abbrev pub is_normalized : Features → Bool
is_normalized Raw = false
is_normalized Normalized = true

-- the spliced row, normalised or raw, behind the CMVN state that its fetches leave: a raw row leaves it as it was
abbrev pub spliced_row : StreamView → Features → ℕ → List Float → List Float × List Float
spliced_row v Raw t state = (state, raw_row v.options v.dim (frames_of v) t)
spliced_row v Normalized t state = normalised_row v.options v.dim v.global.now (frames_of v) t state
