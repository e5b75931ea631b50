use Rattle.std.proofs.Common.{◌+◌, subst, sym}
use Rattle.std.proofs.lemmas.List.{take_rest}
use Rattle.tokens.proofs.Comments.{Ends, ends_at, unclosed_by}
use Rattle.tokens.proofs.bytes.after_comment.Goals as goal

pub returns-in_err-mark : goal.returns-in_err-mark
returns-in_err-mark c = rw c.from_residual.ensures (unclosed_by c.args.s.now c.in_err-mark.ensures)

pub returns : goal.returns
returns c =
    let s = c.args.s.now in
    let mark = c.in_ok-mark.mark in
    subst (Ends s) (sym (take_rest s (mark + 2))) (ends_at s mark c.in_ok-mark.ensures)
