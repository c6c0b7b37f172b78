-- Spans in roles. For private functions only.
use Rattle.std.specs.Prelude.{ℕ, List}
use Rattle.lam_query.specs.Within.{IsSpanOfText}
use Rattle.lam_check.specs.declared.terms.Role.{Role}
use Rattle.lam_check.specs.declared.terms.Role.TheVariants as roles

-- the span of a role starts and ends between characters of the text
abbrev pub RoleStandsIn : List ℕ → Role → Type 0
RoleStandsIn text roles.Other = Unit {0}
RoleStandsIn text (roles.Bound whole) = IsSpanOfText text whole
RoleStandsIn text (roles.Fixed whole) = IsSpanOfText text whole
