use Rattle.std.specs.Prelude.{ℕ, List, [], ◌∷◌, ◌++◌, map}
use Rattle.tokens.specs.declared.token.Mark.{Mark}
use Rattle.tokens.specs.declared.token.Token.{Token}
use Rattle.tokens.specs.declared.token.Token.TheVariants as code

-- A token: its place, the number of bytes before it, and what stands there. The end of the source is a last token.
pub data Tok : Type 0 where
  end : Tok
  mark : ℕ → Mark → Tok
  number : ℕ → ℕ → Tok
  name : ℕ → List ℕ → Tok

abbrev pub tok : Token → Tok
tok (code.Mark p m) = mark p m
tok (code.Number p n) = number p n
tok (code.Name p v) = name p v.now

-- the tokens, and the end of the source after them
abbrev pub toks : List Token → List Tok
toks ts = map tok ts ++ end ∷ []
