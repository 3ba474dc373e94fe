-- Laws of reasons.
use mathlib.Core.Path.{◌≡◌}
use native.Mathlib.Omega.{arith}
use Rattle.outcome.specs.declared.Reason.{Reason}
use Rattle.outcome.specs.declared.Reason.TheVariants.{AreaTooShort, UnknownKind, WrongLength, WrongFlag}
use Rattle.outcome.specs.declared.Reason.TheVariants.{UnknownResolution, InputEnds, RecordCrosses, WrongTail}
use Rattle.outcome.specs.declared.Reason.TheVariants.{NoPackedBody, OutOfRange, UndefinedControl, RunTooLong}
use Rattle.outcome.specs.declared.Reason.TheVariants.{SizeMismatch, WrongHeader, Bit15Set, IgnoredBitsSet}
use Rattle.outcome.specs.declared.Reason.TheVariants.{NoZeroTail, NotOwned, WrongVersion, OutsideProfile}
use Rattle.outcome.specs.declared.Reason.TheVariants.{WrongScanlineRun}
use Rattle.outcome.specs.Refusal.{number_of}

-- the number of a reason is not that of an acceptance
pub number-some : (why : Reason) → number_of why ≡ 0 → ⊥
number-some AreaTooShort e = omega arith
number-some UnknownKind e = omega arith
number-some WrongLength e = omega arith
number-some WrongFlag e = omega arith
number-some UnknownResolution e = omega arith
number-some InputEnds e = omega arith
number-some RecordCrosses e = omega arith
number-some WrongTail e = omega arith
number-some NoPackedBody e = omega arith
number-some OutOfRange e = omega arith
number-some UndefinedControl e = omega arith
number-some RunTooLong e = omega arith
number-some SizeMismatch e = omega arith
number-some WrongHeader e = omega arith
number-some Bit15Set e = omega arith
number-some IgnoredBitsSet e = omega arith
number-some NoZeroTail e = omega arith
number-some NotOwned e = omega arith
number-some WrongVersion e = omega arith
number-some OutsideProfile e = omega arith
number-some WrongScanlineRun e = omega arith
