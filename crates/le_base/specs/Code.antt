-- The number and the name that a refusal shows for its code: this project's profile.
use Rattle.std.specs.Prelude.{ℕ, List, codes}
use Rattle.le_base.specs.declared.code.Code.{Code}
use Rattle.le_base.specs.declared.code.Code.TheVariants.{TooLong, NotUtf8, BadCharacter, OpenQuote, LongSentence, UnknownHeader, NoStop, BadTemplate, SameTemplate, NoReading, Ambiguous, Dangling, Again, WhichHere, MixedConnectives, BadIndent, NegationScope, PredefinedHead, SameName, TooMany, NoScenario, NoQuery, BadDate, BadNumber}

-- the number of each code, from 1 in this order
abbrev pub code_number : Code → ℕ
code_number TooLong = 1
code_number NotUtf8 = 2
code_number BadCharacter = 3
code_number OpenQuote = 4
code_number LongSentence = 5
code_number UnknownHeader = 6
code_number NoStop = 7
code_number BadTemplate = 8
code_number SameTemplate = 9
code_number NoReading = 10
code_number Ambiguous = 11
code_number Dangling = 12
code_number Again = 13
code_number WhichHere = 14
code_number MixedConnectives = 15
code_number BadIndent = 16
code_number NegationScope = 17
code_number PredefinedHead = 18
code_number SameName = 19
code_number TooMany = 20
code_number NoScenario = 21
code_number NoQuery = 22
code_number BadDate = 23
code_number BadNumber = 24

-- the name of each code
abbrev pub code_name : Code → List ℕ
code_name TooLong = codes "TooLong"
code_name NotUtf8 = codes "NotUtf8"
code_name BadCharacter = codes "BadCharacter"
code_name OpenQuote = codes "OpenQuote"
code_name LongSentence = codes "LongSentence"
code_name UnknownHeader = codes "UnknownHeader"
code_name NoStop = codes "NoStop"
code_name BadTemplate = codes "BadTemplate"
code_name SameTemplate = codes "SameTemplate"
code_name NoReading = codes "NoReading"
code_name Ambiguous = codes "Ambiguous"
code_name Dangling = codes "Dangling"
code_name Again = codes "Again"
code_name WhichHere = codes "WhichHere"
code_name MixedConnectives = codes "MixedConnectives"
code_name BadIndent = codes "BadIndent"
code_name NegationScope = codes "NegationScope"
code_name PredefinedHead = codes "PredefinedHead"
code_name SameName = codes "SameName"
code_name TooMany = codes "TooMany"
code_name NoScenario = codes "NoScenario"
code_name NoQuery = codes "NoQuery"
code_name BadDate = codes "BadDate"
code_name BadNumber = codes "BadNumber"
