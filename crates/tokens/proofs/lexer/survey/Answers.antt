use Rattle.std.proofs.Common.{◌-◌, ◌<◌, length, sym, subst, arith}
use Rattle.std.proofs.lemmas.Result.{err_from_is_err_and}
use Rattle.tokens.specs.Tokens.{tok}
use Rattle.tokens.specs.Lexemes.{complete, Lexed, finished}
use Rattle.tokens.specs.Scanning.{Leads}
use Rattle.tokens.proofs.Total.{leads_shorter}
use Rattle.tokens.proofs.Survey.{surveying_start, survey_done, surveying_gap, survey_goes_on, survey_refuses, survey_fails}
use Rattle.tokens.proofs.lexer.survey.Goals as goal
use Rattle.tokens.proofs.lexer.survey.Goals.{In-Token}

pub loop-after-init : goal.loop-after-init
loop-after-init c = surveying_start c.args.source.now

pub returns-in_err-next_at : goal.returns-in_err-next_at
returns-in_err-next_at c =
    let p = err_from_is_err_and c.from_residual.result c.from_residual.ensures.1 in
    rw (p.1, p.2) (survey_fails c.loop-after.invariant c.in_err-next_at.field-0.0 c.in_err-next_at.ensures)

pub returns-in-End : goal.returns-in-End
returns-in-End c =
    let place = length c.args.source.now - length c.loop-after.rest.now in
    let empty = rw c.in-End.is at c.in_ok-next_at.ensures in
    let none = subst (λ bs. Lexed place bs _ complete) (sym empty) finished in
    survey_done c.loop-after.invariant complete none c.counted.result c.counted.ensures

pub loop-after-preserved-in-Gap : goal.loop-after-preserved-in-Gap
loop-after-preserved-in-Gap c =
    let skips = rw c.in-Gap.is at c.in_ok-next_at.ensures in surveying_gap c.loop-after.invariant skips

leads : (c : In-Token) → Leads (length c.args.source.now - length c.loop-after.rest.now) c.loop-after.rest.now c.in-Token.after.now (tok c.in-Token.field-0)
leads c = let stands = rw c.in-Token.is at c.in_ok-next_at.ensures in stands.0

less : (c : In-Token) → length c.in-Token.after.now < length c.loop-after.rest.now
less c = leads_shorter (leads c)

pub bounds-rest-0 : goal.bounds-rest-0
bounds-rest-0 c = let h = less (goal.at.bounds-rest-0 c).In-Token in omega arith

pub returns-in_err-seen-in-Token : goal.returns-in_err-seen-in-Token
returns-in_err-seen-in-Token c =
    let p = err_from_is_err_and c.from_residual-in_err-seen-in-Token.result c.from_residual-in_err-seen-in-Token.ensures.1 in
    let stands = rw c.in-Token.is at c.in_ok-next_at.ensures in
    rw (p.1, p.2)
    (survey_refuses c.loop-after.invariant stands.0 stands.1 c.class_of-class.result c.class_of-class.ensures
    c.in_err-seen-in-Token.field-0.0 c.in_err-seen-in-Token.ensures)

pub loop-after-smaller : goal.loop-after-smaller
loop-after-smaller c = less (goal.at.loop-after-smaller c).In-Token

pub loop-after-preserved : goal.loop-after-preserved
loop-after-preserved c =
    let stands = rw c.in-Token.is at c.in_ok-next_at.ensures in
    survey_goes_on c.loop-after.invariant stands.0 stands.1 c.class_of-class.result c.class_of-class.ensures
    c.in_ok-seen-in-Token.seen c.in_ok-seen-in-Token.ensures
