use Rattle.std.proofs.Common.{arith}
use Rattle.tokens.proofs.Lexing.{too_long, faultless, accepted}
use Rattle.tokens.proofs.lexer.lex_source.Goals as goal

pub returns-then-source-gt-MAX_BYTES : goal.returns-then-source-gt-MAX_BYTES
returns-then-source-gt-MAX_BYTES c =
    rw c.at.ensures (too_long c.args.source.now c.args.tokens.now c.if-source-gt-MAX_BYTES.true)

pub fill-requires : goal.fill-requires
fill-requires c = faultless c.args.tokens.now (omega arith) c.in_ok-count.ensures

pub returns : goal.returns
returns c = accepted c.args.tokens.now (omega arith) c.in_ok-count.ensures c.fill.ensures
