-- What is listed behind a dot of a text, by the piece that the cursor is in.
use Rattle.std.proofs.Common.{◌≡◌, ℕ, ◌+◌, ◌<◌, ◌≤◌, List, [], ◌∷◌, ◌++◌, append_assoc, drop, Option, Some, None, refl, ap, sym, subst, ◌∙◌}
use Rattle.std.specs.List.{AllByRecursion}
use Rattle.std.specs.Option.{option_map, IfNone}
use Rattle.lam_token.specs.Lexeme.{Lexeme, start_of}
use Rattle.lam_token.specs.Cut.{AreTokensFrom, AreTokensOf}
use Rattle.lam_rules.specs.Types.{Label}
use Rattle.lam_syntax.specs.Answers.{pieces_of}
use Rattle.lam_syntax.specs.Trees.{CommandTree}
use Rattle.lam_scope.specs.PlacedTerms.{projection_at}
use Rattle.lam_query.specs.declared.analyses.Analysis.{Analysis}
use Rattle.lam_query.specs.declared.pieces.PieceAt.{PieceAt}
use Rattle.lam_query.specs.Analyses.{IsAnalysisOf}
use Rattle.lam_query.specs.Commands.{AreCommandsOf}
use Rattle.lam_query.specs.Completions.{dot_before, with_label, IsProjected, Item, AreItems}
use Rattle.lam_query.specs.inner.Around.{IsPieceAround, first_term}
use Rattle.lam_query.specs.inner.Listed.{AreListed, AreListedFor, small, large, IsListedBehind}
use Rattle.lam_query.specs.inner.OnePiece.{HaveNoSemicolon, IsOwnOf, ArePieceTokens}
use Rattle.lam_query.proofs.DotsInTypes.{IsOther, own_binds_none}
use Rattle.lam_query.proofs.Completing.{begins}
use Rattle.lam_query.proofs.InText.{IsInText}
use Rattle.lam_query.proofs.LabelInPiece.{text_dot, text_label, dot_found, dot_holds, dot_kind, label_goes_on, piece_tokens}
use Rattle.lam_query.proofs.PieceInText.{piece_in_text}
use Rattle.lam_query.proofs.PieceLaws.{some_commands}
use Rattle.lam_query.proofs.Projected.{one_label, none_projected, items_listed, none_listed}

none_begins : (found : Option Lexeme) → None ≡ option_map start_of found → found ≡ None
none_begins None is = refl
none_begins (Some t) is = absurd cc

pub none_then : {X P Q : Type 0} (r : Option X) → IfNone r P → (P → Q) → IfNone r Q
none_then None h f = f h
none_then (Some x) h f = h

module _ (text : List ℕ) (offset : ℕ) (a : Analysis) (p : PieceAt) (of : IsAnalysisOf text a) (here : IsPieceAround text offset a p) where
  -- without a dot before the cursor there is no label
  pub no_dot_there : ((ts : List Lexeme) → AreTokensFrom p.start p.text.now ts → None ≡ option_map start_of (dot_before offset ts))
      → (tokens : List Lexeme) (l : Label) → AreTokensOf text tokens → IsProjected tokens offset l → ⊥
  no_dot_there told tokens l are h =
      let some = some_commands (pieces_of tokens) in
      let is = piece_in_text text offset a p tokens some.0 of here are some.1 in
      let none = none_begins (dot_before offset tokens) (dot_found here tokens some.0 are is None told) in
      let clash : None ≡ Some h.dot = sym none ∙ h.is_before in
      absurd cc

  module _ (dot : ℕ) (told : (ts : List Lexeme) → AreTokensFrom p.start p.text.now ts → Some dot ≡ option_map start_of (dot_before offset ts)) (own : List CommandTree)
      (is_own : (rest : List ℕ) (ts : List Lexeme) (t : Lexeme) → ArePieceTokens p.start p.text.now rest ts → HaveNoSemicolon ts → dot ≡ start_of t
      → IsOwnOf (with_label offset t one_label ts) own) where
    abbrev Done : List CommandTree
    Done = here.around.front.commands

    abbrev Own : List Lexeme
    Own = here.around.is_row.tokens

    module _ (tokens : List Lexeme) (commands : List CommandTree) (are : AreTokensOf text tokens) (are_commands : AreCommandsOf (pieces_of tokens) commands) where
      is : IsInText here tokens commands
      is = piece_in_text text offset a p tokens commands of here are are_commands

      found : (t : Lexeme) × (dot_before offset tokens ≡ Some t) × (dot ≡ start_of t)
      found = begins (dot_before offset tokens) dot (dot_found here tokens commands are is (Some dot) told)

      abbrev Dot : Lexeme
      Dot = found.0

      in_own : dot_before offset Own ≡ Some Dot
      in_own = sym (text_dot here tokens commands are is) ∙ found.1

      behind_start : p.start ≤ start_of Dot
      behind_start = dot_holds (λ u. p.start ≤ start_of u) offset Own Dot is.own_inside in_own

      before_others : AllByRecursion (λ u. start_of Dot < start_of u) is.after
      before_others = dot_holds (λ t. AllByRecursion (λ u. start_of t < start_of u) is.after) offset Own Dot is.own_before in_own

      -- the tokens of the piece with the label
      abbrev Labelled : List Lexeme
      Labelled = with_label offset Dot one_label Own

      goes_on : HaveNoSemicolon Labelled
      goes_on = label_goes_on offset Dot one_label Own here.around.is_row.piece.one_piece

      labelled_own : IsOwnOf Labelled own
      labelled_own = is_own (drop here.around.row.end text) Own Dot (piece_tokens here) here.around.is_row.piece.one_piece found.2

      reads : AreCommandsOf (pieces_of (with_label offset Dot one_label tokens)) (Done ++ (own ++ is.rest))
      reads =
          subst (λ ts. AreCommandsOf (pieces_of ts) (Done ++ (own ++ is.rest))) (sym (text_label here tokens commands are is Dot one_label))
          (is.replaced Labelled own goes_on labelled_own)

      no_command : own ≡ [] → (l : Label) → IsProjected tokens offset l → ⊥
      no_command none =
          none_projected text tokens offset Dot are found.1 (Done ++ (own ++ is.rest)) reads
          (ap (λ cs. projection_at (start_of Dot) (Done ++ (cs ++ is.rest))) none ∙ is.no_projection_there Dot behind_start before_others)

      module _ (c : CommandTree) (only : own ≡ c ∷ []) where
        one_own : IsOwnOf Labelled (c ∷ [])
        one_own = subst (IsOwnOf Labelled) only labelled_own

        at_dot : projection_at (start_of Dot) (Done ++ (own ++ is.rest)) ≡ option_map (λ n. first_term here + n) (projection_at dot (c ∷ []))
        at_dot =
            ap (λ cs. projection_at (start_of Dot) (Done ++ (cs ++ is.rest))) only
            ∙ is.projection_there Dot c Labelled goes_on one_own behind_start before_others
            ∙ ap (λ o. option_map (λ n. first_term here + n) (projection_at o (c ∷ []))) (sym found.2)

        no_projection : projection_at dot (c ∷ []) ≡ None → (l : Label) → IsProjected tokens offset l → ⊥
        no_projection none =
            none_projected text tokens offset Dot are found.1 (Done ++ (own ++ is.rest)) reads (at_dot ∙ ap (option_map (λ n. first_term here + n)) none)

        pub items_there : (items : List Item) → IsListedBehind here dot c items → AreItems commands tokens offset items a.dialect
        items_there items h =
            by items
            (h.listed commands is.rest (record { tokens = tokens; are_tokens = are; are_commands = are_commands }) (is.are ∙ sym (append_assoc Done here.around.own is.rest))
            (own_binds_none Own here.around.own here.around.is_row.is_own (λ none. dot_holds IsOther offset Own Dot none in_own (dot_kind offset Own Dot in_own))))
          where
            there : projection_at (start_of Dot) (Done ++ (own ++ is.rest)) ≡ Some (first_term here + h.number)
            there = at_dot ∙ ap (option_map (λ n. first_term here + n)) h.there

            by : (found_items : List Item) → AreListedFor commands (Done ++ c ∷ is.rest) (first_term here + h.number) found_items a.dialect → AreItems commands tokens offset found_items a.dialect
            by found_items (small no_fault listed) =
                items_listed text tokens offset Dot are found.1 (Done ++ (own ++ is.rest)) reads (first_term here + h.number) there commands found_items a.dialect no_fault
                (subst (λ cs. AreListed (Done ++ (cs ++ is.rest)) (first_term here + h.number) found_items a.dialect) (sym only) listed)
            by _ (large s fault) =
                none_listed text tokens offset Dot are found.1 (Done ++ (own ++ is.rest)) reads (first_term here + h.number) there commands a.dialect (λ no_fault. no_fault s fault)

    -- without a command, or without a projection in it, there is no label

    pub no_command_there : own ≡ [] → (tokens : List Lexeme) (l : Label) → AreTokensOf text tokens → IsProjected tokens offset l → ⊥
    no_command_there none tokens l are = let some = some_commands (pieces_of tokens) in no_command tokens some.0 are some.1 none l

    pub no_projection_there : (c : CommandTree) → own ≡ c ∷ [] → projection_at dot (c ∷ []) ≡ None
        → (tokens : List Lexeme) (l : Label) → AreTokensOf text tokens → IsProjected tokens offset l → ⊥
    no_projection_there c only none tokens l are = let some = some_commands (pieces_of tokens) in no_projection tokens some.0 are some.1 c only none l
