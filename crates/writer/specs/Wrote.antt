-- What a call on a writer leaves to the next: its bytes from the place on, the place after them, and the same memory.
use Rattle.std.specs.Prelude.{◌≡◌, List, ℕ, ◌+◌, ◌≤◌, length}
use Rattle.loops.specs.Ring.{put}
use Rattle.writer.specs.declared.byte_writer.Writer.{Writer}

-- there is room for xs
pub record HasRoom (xs : List ℕ) (w : Writer) : Type 0 where
  pub fits : w.at + length xs ≤ length w.out.now

-- xs stand from the old place on, and the new one is after them
pub record Wrote (xs : List ℕ) (old new : Writer) : Type 0 where
  pub next_is : new.at ≡ old.at + length xs
  pub out_is : new.out.now ≡ put old.at xs old.out.now
  pub long : length new.out.now ≡ length old.out.now
  pub same_out : new.out.ghost_name ≡ old.out.ghost_name
