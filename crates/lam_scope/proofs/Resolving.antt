-- How commands are resolved one after the other.
use Rattle.std.proofs.Common.{◌≡◌, ℕ, ◌+◌, ◌<◌, List, [], ◌∷◌, ◌++◌, length, drop, get_or, refl, ap, append_assoc, map, Some, None}
use Rattle.std.proofs.lemmas.List.{append-nil, drop_all}
use Rattle.lam_token.specs.declared.span.Span.{Span}
use Rattle.lam_rules.proofs.TableEntries.{drop_more_read}
use Rattle.lam_syntax.specs.declared.terms.Command.{Command}
use Rattle.lam_syntax.specs.Trees.{CommandTree}
use Rattle.lam_syntax.specs.Views.{command_of}
use Rattle.lam_scope.specs.declared.statement.Statement.{Statement as RustStatement}
use Rattle.lam_scope.specs.Expansions.{Abbreviation}
use Rattle.lam_scope.specs.Nameless.{first_over_limit, first_too_large, abbreviations_after, written_in_command}
use Rattle.lam_scope.specs.declared.rows.BinderRow.{BinderRow}
use Rattle.lam_scope.specs.TableViews.{text_binder, origin_of}
use Rattle.lam_scope.specs.Views.{statement_of}

pub statements-push : (ss : List RustStatement) (s : RustStatement) → map statement_of (ss ++ s ∷ []) ≡ map statement_of ss ++ statement_of s ∷ []
statements-push [] s = refl
statements-push (r ∷ ss) s = ap (λ rs. statement_of r ∷ rs) (statements-push ss s)

pub statements-drop : (ss : List RustStatement) (i : ℕ) (s : RustStatement) → i < length ss → s ≡ get_or ss i s
    → map statement_of (drop i ss) ≡ statement_of s ∷ map statement_of (drop (i + 1) ss)
statements-drop ss i s lt is = ap (map statement_of) (drop_more_read ss i s lt is)

pub ruleset resolving = (statements-push, append-nil, append_assoc)

pub commands-drop : (cs : List Command) (i : ℕ) (c : Command) → i < length cs → c ≡ get_or cs i c
    → map command_of (drop i cs) ≡ command_of c ∷ map command_of (drop (i + 1) cs)
commands-drop cs i c lt is = ap (map command_of) (drop_more_read cs i c lt is)

pub first_large : (bs : List Abbreviation) (c : CommandTree) (cs : List CommandTree) → first_over_limit bs (written_in_command c) ≡ None
    → first_too_large bs (c ∷ cs) ≡ first_too_large (abbreviations_after bs c) cs
first_large bs c cs none = rw none refl

pub first_is_large : (bs : List Abbreviation) (c : CommandTree) (cs : List CommandTree) (s : Span) → first_over_limit bs (written_in_command c) ≡ Some s
    → first_too_large bs (c ∷ cs) ≡ Some s
first_is_large bs c cs s some = rw some refl

pub ruleset commands = (commands-drop, first_large, first_is_large, append-nil, append_assoc, drop_all)

pub origins-rows : (rows : List BinderRow) → map (λ b. b.origin) (map text_binder rows) ≡ map (λ r. origin_of r.origin) rows
origins-rows [] = refl
origins-rows (r ∷ rows) = ap (λ os. origin_of r.origin ∷ os) (origins-rows rows)
