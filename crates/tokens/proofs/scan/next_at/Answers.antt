use Rattle.std.proofs.Common.{◌≡◌, ◌++◌, codes, Some, None, Err, rules, get_or, take, sym, ap, ◌∙◌, refl, arith}
use Rattle.std.specs.List.{prefix_len}
use Rattle.std.proofs.lemmas.Slice.{first_rest}
use Rattle.refusal.specs.declared.Reason.TheVariants.{NumberTooLarge, UnclosedComment, UnexpectedByte}
use Rattle.refusal.specs.Faults.{refusal}
use Rattle.tokens.specs.Lexemes.{letter, digit, Front}
use Rattle.tokens.specs.Scanning.{open_comment}
use Rattle.tokens.proofs.Texts.{class_white}
use Rattle.tokens.proofs.Standing.{word_stands, number_digits, number_stands, number_fails, skips_blank, skips_comment, left_open, symbol_leads, no_symbol}
use Rattle.tokens.proofs.scan.next_at.Goals as goal
use Rattle.tokens.proofs.scan.next_at.Goals.{After-split_at-in-Digit}

pub returns-in_err-rest-in-Other : goal.returns-in_err-rest-in-Other
returns-in_err-rest-in-Other c =
    let opens : c.args.s.now ≡ codes "/*" ++ c.in-Some.body.now = search rules in
    let none : c.after_comment.result ≡ None = search rules in
    let unclosed = rw none at c.after_comment.ensures in
    let refused : c.from_residual-in_err-rest-in-Other.result ≡ Err (refusal UnclosedComment c.args.place) = search rules in
    rw refused (open_comment (left_open opens c.args.place unclosed))

pub returns-in-Some : goal.returns-in-Some
returns-in-Some c =
    let opens : c.args.s.now ≡ codes "/*" ++ c.in-Some.body.now = search rules in
    let some : c.after_comment.result ≡ Some c.in_ok-rest-in-Other.rest = search rules in
    let ends = rw some at c.after_comment.ensures in
    skips_comment opens c.in_ok-rest-in-Other.rest.now ends

pub returns-in-White : goal.returns-in-White
returns-in-White c =
    let s = c.args.s.now in
    skips_blank (get_or s 0 0) (first_rest s 0 (omega arith)) (class_white (get_or s 0 0) (sym c.in-White.ensures))

pub returns-in-Letter : goal.returns-in-Letter
returns-in-Letter c =
    let s = c.args.s.now in
    let word = c.split_at.result.0.now in
    let run : word ≡ take (prefix_len letter s) s =
    c.split_at.ensures.front ∙ ap (λ n. take n s) c.leading_letters.ensures.value in
    word_stands c.args.place s word c.split_at.result.1.now (omega arith) c.split_at.ensures.by_index.0
    c.in-Letter.ensures run c.word_token.result c.word_token.ensures

run : (c : After-split_at-in-Digit) → c.split_at-in-Digit.result.0.now ≡ take (prefix_len digit c.args.s.now) c.args.s.now
run c = c.split_at-in-Digit.ensures.front ∙ ap (λ n. take n c.args.s.now) c.leading_digits.ensures.value

pub value_of-requires : goal.value_of-requires
value_of-requires c =
    number_digits c.args.place c.args.s.now c.split_at-in-Digit.result.0.now c.split_at-in-Digit.result.1.now (omega arith)
    c.split_at-in-Digit.ensures.by_index.0 c.in-Digit.ensures (run (goal.at.value_of-requires c).After-split_at-in-Digit)

pub returns-in_err-value-in-Digit : goal.returns-in_err-value-in-Digit
returns-in_err-value-in-Digit c =
    let none : c.value_of.result ≡ None = search rules in
    let refused : c.from_residual.result ≡ Err (refusal NumberTooLarge c.args.place) = search rules in
    rw refused
    (number_fails c.args.place c.args.s.now c.split_at-in-Digit.result.0.now c.split_at-in-Digit.result.1.now (omega arith)
    c.split_at-in-Digit.ensures.by_index.0 c.in-Digit.ensures
    (run (goal.at.returns-in_err-value-in-Digit c).After-split_at-in-Digit) (sym none ∙ c.value_of.ensures))

pub returns-in_ok-value-in-Digit : goal.returns-in_ok-value-in-Digit
returns-in_ok-value-in-Digit c =
    let value = c.in_ok-value-in-Digit.value in
    let some : c.value_of.result ≡ Some value = search rules in
    number_stands c.args.place c.args.s.now c.split_at-in-Digit.result.0.now c.split_at-in-Digit.result.1.now (omega arith)
    c.split_at-in-Digit.ensures.by_index.0 c.in-Digit.ensures
    (run (goal.at.returns-in_ok-value-in-Digit c).After-split_at-in-Digit) value (sym some ∙ c.value_of.ensures)

pub returns-in_err-mark-in-Other : goal.returns-in_err-mark-in-Other
returns-in_err-mark-in-Other c =
    let none : c.symbol.result ≡ None = search rules in
    let nothing = rw none at c.symbol.ensures in
    let refused : c.from_residual-in_err-mark-in-Other.result ≡ Err (refusal UnexpectedByte c.args.place) = search rules in
    rw refused (no_symbol c.args.place c.args.s.now (omega arith) c.in-Other.ensures nothing)

pub returns-in_ok-mark-in-Other : goal.returns-in_ok-mark-in-Other
returns-in_ok-mark-in-Other c =
    let mark = c.in_ok-mark-in-Other.mark in
    let rest = c.in_ok-mark-in-Other.rest in
    let some : c.symbol.result ≡ Some (mark, rest) = search rules in
    let found = rw some at c.symbol.ensures in
    let clear : Front (codes "/*") c.args.s.now → ⊥ = search rules in
    (symbol_leads c.args.place c.args.s.now (omega arith) c.in-Other.ensures clear mark rest found, refl)
