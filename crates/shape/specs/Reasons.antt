-- The numbers of the refusal table by the reasons that have them ("Refusal numbers"). Definitions only.
use Rattle.std.specs.Prelude.{ℕ}
use Rattle.shape.specs.declared.Refusal.{Refusal}
use Rattle.shape.specs.declared.reason.Reason.{Reason}
use Rattle.shape.specs.declared.reason.Reason.TheVariants.{UnknownBasis, TooDeep, WrongCount, NotOffered, NoSuchRecord, CountAtItsLimit, ShortControls, OutsideLimits, ShortPoints, NotFinite, TooFar, OutOfTurn, BrokenRecord, SpareByte, UnlikeFirst, TooCoarse, NotFlat, TooManyCuts, TooTaut}

abbrev pub number_of : Reason → ℕ
number_of UnknownBasis = 1
number_of TooDeep = 2
number_of WrongCount = 3
number_of NotOffered = 4
number_of NoSuchRecord = 5
number_of CountAtItsLimit = 6
number_of ShortControls = 7
number_of OutsideLimits = 8
number_of ShortPoints = 9
number_of NotFinite = 10
number_of TooFar = 11
number_of OutOfTurn = 12
number_of BrokenRecord = 13
number_of SpareByte = 14
number_of UnlikeFirst = 15
number_of TooCoarse = 20
number_of NotFlat = 21
number_of TooManyCuts = 22
number_of TooTaut = 24

abbrev pub refusal_at : Reason → ℕ → Refusal
refusal_at reason place = record { number = number_of reason; place = place }
