-- `heights_mean::least_mean` meets its contract.
-- Assumes nothing.
use native.Mathlib.Omega.{arith}
use lib.IntN.{ℤ, negsuc}
use lib.Signed.{◌≤ℤ◌}
use Rattle.arith.proofs.Machine.{Num, any, arg, lit, add, sub, div, passed, less, not-less}
use Rattle.heights_mean.specs.Private.{Least}
use Rattle.heights_mean.proofs.Near.{least-low, least-high, least-between, height-most}
use Rattle.heights_mean.proofs.least_mean.Goals as goal

abbrev lowest : Num
lowest = arg (negsuc 163573) 163574 (omega arith) tt

abbrev highest : Num
highest = lit 164085 tt

abbrev above : (h : ℤ) → negsuc 163573 ≤ℤ h → h ≤ℤ highest.z → Num
above h low high = sub (arg h 164085 (height-most h low high) tt) lowest tt

abbrev mean : (h : ℤ) → negsuc 163573 ≤ℤ h → h ≤ℤ highest.z → Num
mean h low high = add (div (above h low high) (lit 10 tt) tt) (arg (negsuc 16381) 16382 (omega arith) tt) tt

pub returns-then-height-lt-LOW : goal.returns-then-height-lt-LOW
returns-then-height-lt-LOW c = least-low c.args.height (less (any c.args.height c.ranges.height) lowest c.if-height-lt-LOW.true)

pub returns-then-height-gt-HIGH : goal.returns-then-height-gt-HIGH
returns-then-height-gt-HIGH c = least-high c.args.height (less highest (any c.args.height c.ranges.height) c.if-height-gt-HIGH.true)

pub returns : goal.returns
returns c =
    let h : ℤ = c.args.height in
    let low : negsuc 163573 ≤ℤ h = not-less (any h c.ranges.height) lowest c.if-height-lt-LOW.false in
    let high : h ≤ℤ highest.z = not-less highest (any h c.ranges.height) c.if-height-gt-HIGH.false in
    passed (mean h low high) (Least h) (least-between h low high)
