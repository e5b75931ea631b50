use Rattle.tokens.proofs.Unique as laws
use Rattle.tokens.proofs.Rising as places
use Rattle.tokens.proofs.Samples as small
use Rattle.tokens.proofs.lexer.lex.Goals as goal

pub returns-clause-unique : goal.returns-clause-unique
returns-clause-unique c = laws.unique

pub returns-clause-rising : goal.returns-clause-rising
returns-clause-rising c = places.rising

pub returns-clause-samples : goal.returns-clause-samples
returns-clause-samples c = small.samples
