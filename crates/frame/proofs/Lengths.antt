-- How long the frame of a message is.
-- Assumes nothing.
use Prim.Native.Nat.{ℕ, ◌+◌}
use mathlib.Core.List.{List}
use mathlib.Core.Path.{◌≡◌}
use native.Mathlib.Omega.{arith}
use lib.ListN.{length, length-append}
use Rattle.frame.specs.Frames.{head, three, headed, frame}

pub length-headed : (m : List ℕ) → length (headed m) ≡ length m + 3
unfolding headed head
length-headed m = omega arith

pub length-frame : (m : List ℕ) → length (frame m) ≡ length m + 6
unfolding frame three
length-frame m = simp length-append (omega (arith, length-headed m))
