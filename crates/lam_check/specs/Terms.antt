-- The texts of terms in a drawing. `letrec x:T = t1 in t2` is short for `let x = fix (lambda x:T. t1) in t2`, and the span of this `fix` and this `lambda` is that of t1.
use Rattle.std.specs.Prelude.{ℕ, ◌+◌, ◌-◌, ◌==◌, ◌&&◌, Bool, List, [], ◌∷◌, ◌++◌, Option, Some, None, codes, chars, encode_utf8, encode_utf8_all, map, slice_range, if◌then◌else◌}
use Rattle.std.specs.Char.{is_control}
use Rattle.std.specs.List.{before_first, after_first}
use Rattle.std.specs.Str.{bytes_eq, trim}
use Rattle.lam_token.specs.declared.span.Span.{Span}
use Rattle.lam_rules.specs.Texts.{Text}
use Rattle.lam_rules.specs.declared.rules.TypeRule.{TypeRule}
use Rattle.lam_query.specs.Steps.{Conclusion, typing, subtyping}
use Rattle.lam_check.specs.declared.terms.Role.{Role}
use Rattle.lam_check.specs.declared.terms.Role.TheVariants as roles

-- ---- as written

-- A character of a term on one line: a blank for any control character, including line ends.
abbrev pub flat : ℕ → ℕ
flat c = if is_control c then 32 else c

-- the term at a span, on one line
abbrev pub term_text : List ℕ → Span → Text
term_text text s = encode_utf8_all (map flat (chars (slice_range text s.start s.end)))

-- ---- without comments

-- a slash and a star open a comment
abbrev pub is_opening : (before c : ℕ) → Bool
is_opening before c = (before == 47) && (c == 42)

-- a star and a slash close it
abbrev pub is_closing : (before c : ℕ) → Bool
is_closing before c = (before == 42) && (c == 47)

-- Marks of comments are two characters: `before` is the previous character, or a blank if it was part of a mark.
abbrev pub next_before : (before c : ℕ) → ℕ
next_before before c = if is_opening before c then 32 else (if is_closing before c then 32 else c)

-- the number of comments that are open after a character
abbrev pub next_depth : (depth before c : ℕ) → ℕ
next_depth depth before c = if is_opening before c then depth + 1 else (if is_closing before c then depth - 1 else depth)

-- a character outside of comments, on one line; a slash there begins a comment, and becomes a blank
abbrev pub outside : ℕ → ℕ
outside c = if c == 47 then 32 else flat c

-- what is kept of a character: nothing of one that is in a comment or ends a mark
abbrev pub kept : (depth before c : ℕ) → Text
kept depth before c = if is_opening before c then [] else (if is_closing before c then [] else (if depth == 0 then encode_utf8 (outside c) else []))

-- characters without their comments, on one line
abbrev pub uncommented : (depth before : ℕ) → List ℕ → Text
uncommented depth before [] = []
uncommented depth before (c ∷ cs) = kept depth before c ++ uncommented (next_depth depth before c) (next_before before c) cs

-- ---- what a `letrec` stands for

-- The text of a `let` or `letrec` with this span up to its first term: its first `l` begins the keyword.
abbrev pub header : List ℕ → (whole first : Span) → Text
header text whole first = uncommented 0 32 (chars (slice_range text whole.start first.start))

-- the `x:T` of a `letrec`, from the text after its first letter; `None` for a `let`
abbrev pub binder_behind : Text → Option Text
binder_behind rest = if bytes_eq (before_first (λ b. b == 99) rest) (codes "etre") then Some (trim (before_first (λ b. b == 61) (after_first (λ b. b == 99) rest))) else None

-- the `x:T` of a `letrec` with this header
abbrev pub binder_in : Text → Option Text
binder_in header = binder_behind (after_first (λ b. b == 108) header)

-- the `x:T` of the `letrec` whose derived term has this role and this span
abbrev pub binder_of : List ℕ → Role → Span → Option Text
binder_of text roles.Other s = None
binder_of text (roles.Bound whole) s = binder_in (header text whole s)
binder_of text (roles.Fixed whole) s = binder_in (header text whole s)

-- what comes before the binder
abbrev pub opening : Role → Text
opening roles.Other = []
opening (roles.Bound whole) = codes "fix (lambda "
opening (roles.Fixed whole) = codes "lambda "

-- what comes after the term
abbrev pub closing : Role → Text
closing roles.Other = []
closing (roles.Bound whole) = codes ")"
closing (roles.Fixed whole) = []

-- a term, with the binder before it and the rest around both if it is a derived one
abbrev pub derived : Role → Option Text → Text → Text
derived role None term = term
derived role (Some binder) term = opening role ++ binder ++ codes ". " ++ term ++ closing role

-- the text of the term with this role and this span
abbrev pub shown_term : List ℕ → Role → Span → Text
shown_term text role s = derived role (binder_of text role s) (term_text text s)

-- ---- roles

-- the role of the term that a `fix` with this role is applied to
abbrev pub under_fix : Role → Role
under_fix roles.Other = roles.Other
under_fix (roles.Bound whole) = roles.Fixed whole
under_fix (roles.Fixed whole) = roles.Other

-- the role of the term of the first premise of a step by this rule, about a term with this span and this role
abbrev pub role_under : TypeRule → Span → Role → Role
role_under TypeRule.Let s role = roles.Bound s
role_under TypeRule.Sub s role = role
role_under TypeRule.Fix s role = under_fix role
role_under rule s role = roles.Other

-- the role of the term of the first premise of a step
abbrev pub first_role : Role → Conclusion → Role
first_role role (typing rule s type) = role_under rule s role
first_role role (subtyping rule lower upper) = roles.Other
