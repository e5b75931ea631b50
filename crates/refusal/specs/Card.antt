use Rattle.std.specs.Prelude.{ℕ}
use Rattle.refusal.specs.declared.Reason.{Reason}
use Rattle.refusal.specs.declared.Reason.TheVariants.{SourceTooLong, UnexpectedByte, UnclosedComment, NumberTooLarge, MissingSeparator, TooManyTokens, Syntax, NestingTooDeep, UnknownName, DuplicateName, VoidVariable, ArraySize, WrongKind, ArgumentCount, ReturnValue, MissingMain, TableTooShort, CodeStoreTooShort, ImageLength, BlockCheck, BlockHeader, InstructionForm, CodeLength, ImageStoreTooShort, MemorySize, GrantSize, StoreMismatch}

-- the number that the installer's card has for each reason
abbrev pub number_of : Reason → ℕ
number_of SourceTooLong = 1
number_of UnexpectedByte = 2
number_of UnclosedComment = 3
number_of NumberTooLarge = 4
number_of MissingSeparator = 5
number_of TooManyTokens = 6
number_of Syntax = 7
number_of NestingTooDeep = 8
number_of UnknownName = 9
number_of DuplicateName = 10
number_of VoidVariable = 11
number_of ArraySize = 12
number_of WrongKind = 13
number_of ArgumentCount = 14
number_of ReturnValue = 15
number_of MissingMain = 16
number_of TableTooShort = 17
number_of CodeStoreTooShort = 18
number_of ImageLength = 19
number_of BlockCheck = 20
number_of BlockHeader = 21
number_of InstructionForm = 22
number_of CodeLength = 23
number_of ImageStoreTooShort = 24
number_of MemorySize = 25
number_of GrantSize = 26
number_of StoreMismatch = 27
