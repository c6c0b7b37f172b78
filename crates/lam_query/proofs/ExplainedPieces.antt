-- What the code does with one piece, as it is told of its text.
use Rattle.std.proofs.Common.{◌≡◌, ℕ, ◌-◌, List, [], ◌∷◌, ◌++◌, length, get_or, map, take, Option, Some, None, refl, ap, sym, subst, ◌∙◌, arith}
use Rattle.std.specs.Prelude.{All}
use Rattle.std.specs.List.{AllByRecursion}
use Rattle.std.proofs.lemmas.List.Elements.{All-from_recursion}
use Rattle.lam_token.specs.Lexeme.{Lexeme}
use Rattle.lam_token.specs.declared.span.Span.{Span}
use Rattle.lam_rules.specs.declared.rules.Dialect.{Dialect}
use Rattle.lam_syntax.specs.Trees.{CommandTree}
use Rattle.lam_syntax.specs.Views.{command_of}
use Rattle.lam_syntax.specs.declared.terms.Command.{Command}
use Rattle.lam_scope.specs.Labels.{place_in}
use Rattle.lam_scope.specs.Places.{Place}
use Rattle.lam_scope.specs.PlacedTerms.{term_of, tree_in}
use Rattle.lam_scope.specs.Views.{AreScopesOf}
use Rattle.lam_scope.specs.declared.scopes.Scopes.{Scopes}
use Rattle.lam_typing.specs.Blaming.{IsBlamed}
use Rattle.lam_typing.specs.Checking.{types_in}
use Rattle.lam_typing.specs.Typings.{blamed_in}
use Rattle.lam_typing.specs.Walk.{blamed_of, blames_of}
use Rattle.lam_typing.specs.declared.blame.Blame.{Blame}
use Rattle.lam_query.specs.declared.analyses.Analysis.{Analysis}
use Rattle.lam_query.specs.declared.answers.Fault.{Fault as RustFault}
use Rattle.lam_query.specs.declared.entries.Entries.{Entries}
use Rattle.lam_query.specs.declared.pieces.PieceAt.{PieceAt}
use Rattle.lam_query.specs.declared.rows.Row.{Row as RustRow}
use Rattle.lam_query.specs.declared.stand_ins.Alone.{Alone}
use Rattle.lam_query.specs.declared.typings.Types.{Types}
use Rattle.lam_query.specs.Analyses.{IsAnalysisOf}
use Rattle.lam_query.specs.Commands.{AreCommandsOfText}
use Rattle.lam_query.specs.Mismatches.{ExplainedFault}
use Rattle.lam_query.specs.Sizes.{IsSizeFault, places_in}
use Rattle.lam_query.specs.Views.{fault_of}
use Rattle.lam_query.specs.inner.Entries.{AreMeanings}
use Rattle.lam_query.specs.inner.Explained.{unexplained, IsBlamedAt, AreAdded, AreToldOf, AreEntriesAround}
use Rattle.lam_query.specs.inner.Kept.{row_of, found_in, faults_found, fault_after, AllFit}
use Rattle.lam_query.specs.inner.OnePiece.{HaveNoSemicolon, IsOwnOf, ArePieceTokens}
use Rattle.lam_query.specs.inner.PieceRows.{Sight}
use Rattle.lam_query.specs.inner.Reading.{own_of}
use Rattle.lam_query.specs.inner.StandIns.{stand_ins, IsAlone}
use Rattle.lam_query.specs.inner.Typings.{AreTypesOf}
use Rattle.lam_query.proofs.BlamesAlone.{IsBlameOf, each_blamed}
use Rattle.lam_query.proofs.ExplainedInText.{no_faults_added, no_command_added, alone_is_small, written_fit, piece_added}
use Rattle.lam_query.proofs.PieceAround.{own_read}
use Rattle.lam_query.proofs.RowsAndTerms.{place_told}

-- ---- the terms that are to blame

module _ (scopes : Scopes) (types : Types) (commands : List CommandTree) (d : Dialect) (of : AreScopesOf scopes commands) (are : AreTypesOf commands types d) where
  one_blamed : (b : Blame) → IsBlameOf 0 (places_in commands) d (blamed_of b) → IsBlamedAt scopes types b.place
  one_blamed b is =
      let at : is.at ≡ b.place.0 = omega (arith, is.number) in
      let place : get_or (places_in commands) is.at (term_of (tree_in [] 0)).place ≡ place_in commands b.place.0 =
      ap (λ k. get_or (places_in commands) k (term_of (tree_in [] 0)).place) at ∙ place_told commands b.place.0 in
      record {
        commands = commands;
        dialect = d;
        are_scopes = of;
        are_types = are;
        inside = omega (arith, is.number, is.inside);
        blamed = subst (λ (p : Place). IsBlamed p.scope p.here d) place is.blamed;
      }

  all_blamed : (blames : List Blame) → AllByRecursion (IsBlameOf 0 (places_in commands) d) (blames_of blames) → AllByRecursion (λ b. IsBlamedAt scopes types b.place) blames
  all_blamed [] all = tt
  all_blamed (b ∷ blames) all = (one_blamed b all.0, all_blamed blames all.1)

  pub blamed_there : (blames : List Blame) → blames_of blames ≡ blamed_in types.typing → All (λ b. IsBlamedAt scopes types b.place) blames
  blamed_there blames same =
      let each = each_blamed 0 (places_in commands) (blamed_in types.typing) d are.typed.blames in
      All-from_recursion (λ (b : Blame). IsBlamedAt scopes types b.place) blames
      (all_blamed blames (subst (AllByRecursion (IsBlameOf 0 (places_in commands) d)) (sym same) each))

-- ---- the faults of the piece

pub empty_list : {A : Type 0} (xs : List A) → length xs ≡ 0 → xs ≡ []
empty_list [] none = refl
empty_list (x ∷ xs) none = absurd (omega (arith, none))

module _ (a : Analysis) (p : PieceAt) (e : Entries) (row default : RustRow) (is : row ≡ get_or a.rows.items p.number default)
    (faults : List RustFault) (are : map fault_of faults ≡ faults_found (found_in (row_of row))) (small : a.row_faults.large ≡ None) where
  -- the faults of the piece were added
  abbrev pub AreAddedFrom : (old now : List ExplainedFault) → Type 0
  AreAddedFrom old now = (text : List ℕ) (commands : List CommandTree) (h : AreEntriesAround text a p e) → IsAnalysisOf text a → AreCommandsOfText text commands
      → AreAdded commands (faults_found (found_in h.here.around.row)) old now a.dialect

  pub no_faults : (old : List ExplainedFault) → faults ≡ [] → AreAddedFrom old old
  no_faults old none text commands h of of_text = no_faults_added text a h.offset p of h.here small row default is faults are commands old none

  module _ (command : Option Command)
      (read : (rest : List ℕ) (tokens : List Lexeme) → ArePieceTokens p.start p.text.now rest tokens → HaveNoSemicolon tokens → IsOwnOf tokens (own_of command)) where
    own_is : (text : List ℕ) (h : AreEntriesAround text a p e) → h.here.around.own ≡ own_of command
    own_is text h = own_read text a h.offset p h.here (own_of command) read

    pub no_command : (old : List ExplainedFault) → command ≡ None → AreAddedFrom old old
    no_command old none text commands h of of_text =
        no_command_added text a h.offset p of h.here small commands old (own_is text h ∙ ap own_of none)

    module _ (c : Command) (some : command ≡ Some c) (alone : Alone)
        (is_alone : (s : Sight) → AreMeanings s (types_in a.types) a.bound e → IsAlone s (command_of c) alone) where
      abbrev pub Commands : List CommandTree
      Commands = map command_of alone.commands.items

      own_here : (text : List ℕ) (h : AreEntriesAround text a p e) → h.here.around.own ≡ command_of c ∷ []
      own_here text h = own_is text h ∙ ap own_of some

      alone_is : (text : List ℕ) (h : AreEntriesAround text a p e) → Commands ≡ stand_ins h.here.sight (command_of c) ++ command_of c ∷ []
      alone_is text h = (is_alone h.here.sight h.are).commands

      pub no_types : (old : List ExplainedFault) → (s : Span) × IsSizeFault Commands s a.dialect → AreAddedFrom old old
      no_types old fault text commands h of of_text =
          absurd (alone_is_small text a h.offset p of h.here small (command_of c) (own_here text h) fault.0
          (subst (λ cs. IsSizeFault cs fault.0 a.dialect) (alone_is text h) fault.1))

      pub all_added : (scopes : Scopes) (types : Types) → AreScopesOf scopes Commands → AreTypesOf Commands types a.dialect
          → (blames : List Blame) → blames_of blames ≡ blamed_in types.typing → (number : ℕ) → number ≡ length faults - length blames
          → (old mid now : List ExplainedFault)
          → (AllFit (map (λ f. fault_after p.start (fault_of f)) (take number faults))
          → mid ≡ old ++ map unexplained (map (λ f. fault_after p.start (fault_of f)) (take number faults)))
          → ((commands : List CommandTree) (d : Dialect) → AreScopesOf scopes commands → AreTypesOf commands types d
          → (added : List ExplainedFault) × (now ≡ mid ++ added) × AreToldOf commands (blames_of blames) added d)
          → AreAddedFrom old now
      all_added scopes types of_scopes of_types blames blamed number number_of old mid now first told text commands h of of_text =
          let added = told Commands a.dialect of_scopes of_types in
          let typed = subst (λ cs. AreTypesOf cs types a.dialect) (alone_is text h) of_types in
          let fit = written_fit text a h.offset p of h.here small (command_of c) (own_here text h) commands of_text row default is faults are types typed blames blamed number number_of h.fits in
          piece_added text a h.offset p of h.here small (command_of c) (own_here text h) commands of_text row default is faults are types typed blames blamed number number_of h.fits
          old mid now added.0 (first fit) added.1 (subst (λ cs. AreToldOf cs (blames_of blames) added.0 a.dialect) (alone_is text h) added.2)
