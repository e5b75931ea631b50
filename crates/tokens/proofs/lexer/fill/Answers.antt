use Rattle.std.proofs.Common.{rules}
use Rattle.tokens.proofs.Total.{leads_shorter}
use Rattle.tokens.proofs.Filling.{filling_start, filling_gap, has_room, filling_lexeme, filled_end, filled_fault}
use Rattle.tokens.proofs.lexer.fill.Goals as goal

pub loop-next-init : goal.loop-next-init
loop-next-init c = filling_start c.args.source.now c.args.tokens.now (search rules) c.requires

pub returns-in-End : goal.returns-in-End
returns-in-End c = let empty = rw c.in-End.is at c.in-Ok.ensures in filled_end c.loop-next.invariant empty

pub loop-next-preserved-in-Gap : goal.loop-next-preserved-in-Gap
loop-next-preserved-in-Gap c = let skips = rw c.in-Gap.is at c.in-Ok.ensures in filling_gap c.loop-next.invariant skips

pub bounds-tokens-count : goal.bounds-tokens-count
bounds-tokens-count c = let stands = rw c.in-Token.is at c.in-Ok.ensures in has_room c.loop-next.invariant stands.0

pub loop-next-smaller : goal.loop-next-smaller
loop-next-smaller c = let stands = rw c.in-Token.is at c.in-Ok.ensures in leads_shorter stands.0

pub loop-next-preserved : goal.loop-next-preserved
loop-next-preserved c =
    let stands = rw c.in-Token.is at c.in-Ok.ensures in
    filling_lexeme c.loop-next.invariant c.in-Token.token stands.0

pub returns : goal.returns
returns c = filled_fault c.loop-next.invariant c.next_at.result c.next_at.ensures c.in_default.not-Ok
