use Rattle.std.specs.Prelude.{◌≡◌, Bool, if◌then◌else◌, ℤ, Some, None, Option}

-- What a port means: the number waiting or none, what the port becomes when that is taken,
-- which numbers can be put now, and what it becomes then.
pub record Ways (Meaning : Type 0) : Type 0 where
  pub waiting : Meaning → Option ℤ
  pub taken : Meaning → Meaning
  pub accepts : Meaning → ℤ → Bool
  pub became : Meaning → ℤ → Meaning

-- the second where there is a number, else the third
abbrev pub if_waiting : {A : Type 0} → Option ℤ → A → A → A
if_waiting (Some _) there none = there
if_waiting None there none = none

-- a take gives the number waiting; with none it changes nothing
pub record Took {M : Type 0} (w : Ways M) (before : M) (reply : Option ℤ) (after : M) : Type 0 where
  pub reply_is : reply ≡ w.waiting before
  pub after_is : after ≡ if_waiting (w.waiting before) (w.taken before) before

-- a put tells whether the number can be put; if not it changes nothing
pub record Offered {M : Type 0} (w : Ways M) (before : M) (number : ℤ) (reply : Bool) (after : M) : Type 0 where
  pub reply_is : reply ≡ w.accepts before number
  pub after_is : after ≡ (if w.accepts before number then w.became before number else before)
