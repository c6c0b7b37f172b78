-- What is derived by the values that the code has: a command alone, what its names are bound to, its types, and the binders before it.
use Rattle.std.proofs.Common.{◌≡◌, ℕ, List, [], ◌∷◌, ◌++◌, map, take, drop, get_or, Option, Some, None, String, Global, sym, ap, subst, ◌∙◌}
use Rattle.lam_token.specs.declared.span.Span.{Span}
use Rattle.lam_rules.specs.Types.{Typ}
use Rattle.lam_rules.specs.Typing.{TypingTree}
use Rattle.lam_rules.specs.declared.types.Ty.{Ty}
use Rattle.lam_syntax.specs.Trees.{CommandTree}
use Rattle.lam_syntax.specs.Views.{command_of}
use Rattle.lam_syntax.specs.declared.terms.Command.{Command}
use Rattle.lam_scope.specs.PlacedTerms.{document_terms, tree_in}
use Rattle.lam_scope.specs.Tables.{Table, table, place_at, place_row_numbered, binder_numbered, visible_at}
use Rattle.lam_scope.specs.Views.{AreScopesOf, table_of, statements_of}
use Rattle.lam_scope.specs.declared.scopes.Scopes.{Scopes}
use Rattle.lam_typing.specs.Checking.{types_in}
use Rattle.lam_typing.specs.Typings.{types_of, found_of, entries_in, IsProofAt}
use Rattle.lam_query.specs.declared.analyses.Analysis.{Analysis}
use Rattle.lam_query.specs.declared.binders.SeenBinder.{SeenBinder}
use Rattle.lam_query.specs.declared.pieces.PieceAt.{PieceAt}
use Rattle.lam_query.specs.declared.stand_ins.Alone.{Alone}
use Rattle.lam_query.specs.declared.typings.Types.{Types}
use Rattle.lam_query.specs.Analyses.{IsAnalysisOf}
use Rattle.lam_query.specs.Derivations.{Derivation, IsDerivedIn}
use Rattle.lam_query.specs.Sizes.{IsSizeFault}
use Rattle.lam_query.specs.Steps.{steps_of, typing_proof}
use Rattle.lam_query.specs.Views.{entry_of}
use Rattle.lam_query.specs.Within.{IsSpanOfText}
use Rattle.lam_query.specs.inner.Around.{IsCommandAround}
use Rattle.lam_query.specs.inner.Contexts.{entry_shown}
use Rattle.lam_query.specs.inner.Kept.{rows_of, placed}
use Rattle.lam_query.specs.inner.Rows.{Front, nothing, AreRowsFrom}
use Rattle.lam_query.specs.inner.SeenBinders.{name_seen, entries_seen, AreBindersBehind, AreEntriesBehind}
use Rattle.lam_query.specs.inner.StandIns.{stand_ins, IsAlone}
use Rattle.lam_query.specs.inner.Typings.{AreFoundOf, AreTypesOf}
use Rattle.lam_query.proofs.DerivedByPiece.{size_alone, nowhere_derived, untyped_derived, typed_derived, row_stands}

-- the entries of a context into which first these binders were put, and then those
pub two_pushed : (none first all : List (String Global × Option Ty)) (ts us is_ts is_us : List Typ) (outer inner is_outer is_inner : List SeenBinder)
    → none ≡ [] → ts ≡ is_ts → us ≡ is_us → outer ≡ is_outer → inner ≡ is_inner
    → map entry_of first ≡ map entry_of none ++ map (entry_shown ts) outer → map entry_of all ≡ map entry_of first ++ map (entry_shown us) inner
    → map entry_of all ≡ map (entry_shown is_ts) is_outer ++ map (entry_shown is_us) is_inner
two_pushed none first all ts us is_ts is_us outer inner is_outer is_inner empty t u o n one two =
    let behind : map entry_of first ≡ map (entry_shown is_ts) is_outer = one ∙ (λ i. map entry_of (empty i) ++ map (entry_shown (t i)) (o i)) in
    two ∙ (λ i. behind i ++ map (entry_shown (u i)) (n i))

module _ (text : List ℕ) (o : ℕ) (a : Analysis) (p : PieceAt) (command : Command) (h : IsAnalysisOf text a) (small : a.row_faults.large ≡ None)
    (there : IsCommandAround text o a p (command_of command)) (alone : Alone) (is_alone : IsAlone there.here.sight (command_of command) alone) where
  abbrev Own : CommandTree
  Own = command_of command

  abbrev AreAlone : List CommandTree
  AreAlone = stand_ins there.here.sight Own ++ Own ∷ []

  are_alone : (items : List Command) → items ≡ alone.commands.items → map command_of items ≡ AreAlone
  are_alone items is = ap (map command_of) is ∙ is_alone.commands

  -- a type of it is too large
  pub too_large_derived : (items : List Command) → items ≡ alone.commands.items → (s : Span) × IsSizeFault (map command_of items) s a.dialect → IsDerivedIn text o None a.dialect
  too_large_derived items is fault =
      let no_way = size_alone text o a p h there.here Own there.own small fault.0 (subst (λ cs. IsSizeFault cs fault.0 a.dialect) (are_alone items is) fault.1) in
      absurd no_way

  module _ (scopes : Scopes) (items : List Command) (is : items ≡ alone.commands.items) (of : AreScopesOf scopes (map command_of items)) where
    same_table : table_of scopes ≡ table AreAlone
    same_table = of.same_table ∙ ap table (are_alone items is)

    -- no term of it has the offset
    pub no_term_derived : None ≡ place_at (table_of scopes) o → IsDerivedIn text o None a.dialect
    no_term_derived at = nowhere_derived text o a p h there.here Own there.own small (sym (at ∙ ap (λ t. place_at t o) same_table))

    -- where its terms are
    pub span_stands : (n : ℕ) → IsSpanOfText text (place_row_numbered (table_of scopes) n).span
    span_stands n =
        subst (λ (t : Table). IsSpanOfText text (place_row_numbered t n).span) (sym same_table) (row_stands text o a p h there.here Own there.own small n)

    module _ (types : Types) (others : List Command) (are : others ≡ alone.commands.items) (found : AreTypesOf (map command_of others) types a.dialect)
        (n : ℕ) (at : Some n ≡ place_at (table_of scopes) o) where
      found_alone : AreFoundOf AreAlone types.resolved types.typing a.dialect
      found_alone = subst (λ cs. AreFoundOf cs types.resolved types.typing a.dialect) (are_alone others are) found

      place_is : place_at (table AreAlone) o ≡ Some n
      place_is = sym (at ∙ ap (λ t. place_at t o) same_table)

      -- the term that has it has no type
      pub no_type_derived : get_or (found_of types.typing) n None ≡ None → IsDerivedIn text o None a.dialect
      no_type_derived none = untyped_derived text o a p h there.here Own there.own small types.resolved types.typing found_alone n place_is none

      -- its type is proved
      pub proof_derived : (tree : TypingTree) → IsProofAt (statements_of types.resolved) types.typing n tree → (outer inner : List SeenBinder)
          → ((f : Front) → AreRowsFrom text nothing (placed 0 (rows_of (take p.number a.rows.items))) f (types_in a.types) a.dialect → AreBindersBehind f outer)
          → ((f : Front) → AreRowsFrom text nothing (placed 0 (rows_of (take p.number a.rows.items))) f (types_in a.types) a.dialect → a.row_faults.large ≡ None
          → AreEntriesBehind f outer (types_in a.types) a.dialect)
          → map name_seen inner ≡ map (λ b. (binder_numbered (table_of scopes) b).name) (drop alone.names (visible_at (table_of scopes) n))
          → entries_seen (types_of types.typing) inner ≡ map (λ b. get_or (entries_in types.typing) b None) (drop alone.names (visible_at (table_of scopes) n))
          → (derived : Derivation) → derived.context ≡ map (entry_shown (types_in a.types)) outer ++ map (entry_shown (types_of types.typing)) inner
          → ((commands : List CommandTree) → AreScopesOf scopes commands → derived.steps ≡ steps_of 0 (typing_proof (tree_in (document_terms commands) n) tree))
          → IsDerivedIn text o (Some derived) a.dialect
      proof_derived tree proof outer inner behind entries names_inside entries_inside derived context steps =
          let rows = subst (λ rs. AreRowsFrom text nothing rs there.here.around.front (types_in a.types) a.dialect) there.here.rows_before there.here.around.rows_before in
          typed_derived text o a p h there.here Own there.own small types.resolved types.typing found_alone n place_is tree proof outer inner alone.names is_alone.names
          (behind there.here.around.front rows) (entries there.here.around.front rows small)
          (subst (λ t. map name_seen inner ≡ map (λ b. (binder_numbered t b).name) (drop alone.names (visible_at t n))) same_table names_inside)
          (subst (λ t. entries_seen (types_of types.typing) inner ≡ map (λ b. get_or (entries_in types.typing) b None) (drop alone.names (visible_at t n))) same_table entries_inside)
          derived context
          (subst (λ cs. derived.steps ≡ steps_of 0 (typing_proof (tree_in (document_terms cs) n) tree)) (are_alone items is) (steps (map command_of items) of))
