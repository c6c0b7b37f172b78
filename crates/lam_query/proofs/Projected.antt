-- One label behind a dot stands for all: with another the same projection asks for that one, of the same term.
use Rattle.std.proofs.Common.{◌≡◌, ℕ, List, [], Some, None, sym, ap, subst, ◌∙◌}
use Rattle.std.specs.Prelude.{codes, true}
use Rattle.std.proofs.lemmas.List.Elements.{All-weaker}
use Rattle.lam_token.specs.Lexeme.{Lexeme, start_of}
use Rattle.lam_token.specs.Cut.{AreTokensOf}
use Rattle.lam_rules.specs.Types.{Label, Typ}
use Rattle.lam_rules.specs.Terms.{project}
use Rattle.lam_rules.specs.Texts.{text as text_of_type}
use Rattle.lam_rules.specs.declared.rules.Dialect.{Dialect}
use Rattle.lam_syntax.specs.Trees.{CommandTree}
use Rattle.lam_syntax.specs.Answers.{pieces_of}
use Rattle.lam_scope.specs.Labels.{labelled, place_in, AreLabelled}
use Rattle.lam_scope.specs.Mentions.{mentions, Ascend}
use Rattle.lam_scope.specs.Places.{Place}
use Rattle.lam_scope.specs.PlacedTerms.{projection_at}
use Rattle.lam_scope.proofs.FreeLabels.{same_number, asks_other}
use Rattle.lam_scope.proofs.SpelledMentions.{named_ascend}
use Rattle.lam_typing.specs.Analysis.{IsFirstTooLarge}
use Rattle.lam_typing.specs.LeastTypes.{IsLeastAt}
use Rattle.lam_query.specs.Commands.{AreCommandsOf}
use Rattle.lam_query.specs.Completions.{dot_before, with_label, IsProjected, IsSmallUpTo, IsTypable, Item, AreLabels, AreItems, labels, too_large as labels_too_large}
use Rattle.lam_query.specs.inner.Listed.{IsProjection, HasLeast, AreFields, AreListed, fields, too_large}
use Rattle.lam_query.specs.Sizes.{IsSmall}
use Rattle.lam_query.proofs.LabelledTokens.{label_named, label_changed}
use Rattle.lam_query.proofs.OneAnswer.{one_commands}

-- what a document with another label has in front of the projection

small_with : (cs others : List CommandTree) (n : ℕ) (l : Label) (d : Dialect) → AreLabelled cs others n l → IsSmallUpTo cs n d → IsSmallUpTo others n d
small_with cs others n l d same small = record {
  written = same.written ∙ small.written;
  terms = λ k first. small.terms k (subst (λ ps. IsFirstTooLarge ps k d) same.before first);
}

small_without : (cs others : List CommandTree) (n : ℕ) (l : Label) (d : Dialect) → AreLabelled cs others n l → IsSmallUpTo others n d → IsSmallUpTo cs n d
small_without cs others n l d same small = record {
  written = sym same.written ∙ small.written;
  terms = λ k first. small.terms k (subst (λ ps. IsFirstTooLarge ps k d) (sym same.before) first);
}

abbrev IsLeastIn : Dialect → Typ → Place → Type 0
IsLeastIn d t p = IsLeastAt p.scope p.here (Some t) d

-- the placeholder
abbrev pub one_label : Label
one_label = codes "a"

module _ (text : List ℕ) (tokens : List Lexeme) (o : ℕ) (t : Lexeme) (are : AreTokensOf text tokens) (before : dot_before o tokens ≡ Some t) (cs : List CommandTree)
    (are_commands : AreCommandsOf (pieces_of (with_label o t one_label tokens)) cs) where
  ascends : (high : ℕ) × Ascend 0 (mentions cs) high
  ascends = named_ascend cs (label_named text tokens o t one_label cs are before are_commands)

  -- the commands with any label
  with_other : (l : Label) → AreCommandsOf (pieces_of (with_label o t l tokens)) (labelled (start_of t) l cs)
  with_other l = label_changed text tokens o t one_label l cs are before are_commands

  -- whatever label is put in, this is the dot, these are the commands, and this is the number
  one_dot : (l : Label) (h : IsProjected tokens o l) → h.dot ≡ t
  one_dot l h = let both : Some h.dot ≡ Some t = sym h.is_before ∙ before in cc

  one_reading : (l : Label) (h : IsProjected tokens o l) → h.commands ≡ labelled (start_of t) l cs
  one_reading l h =
      one_commands (pieces_of (with_label o t l tokens)) h.commands (labelled (start_of t) l cs)
      (subst (λ u. AreCommandsOf (pieces_of (with_label o u l tokens)) h.commands) (one_dot l h) h.are_commands) (with_other l)

  one_place : (l : Label) (h : IsProjected tokens o l) → projection_at (start_of t) cs ≡ Some h.number
  one_place l h = sym (same_number cs (start_of t) l) ∙ (λ i. projection_at (start_of (sym (one_dot l h) i)) (sym (one_reading l h) i)) ∙ h.there

  -- no projection with this label, none with any
  pub none_projected : projection_at (start_of t) cs ≡ None → (l : Label) → IsProjected tokens o l → ⊥
  none_projected none l h = let clash : None ≡ Some h.number = sym none ∙ one_place l h in absurd cc

  module _ (n : ℕ) (there : projection_at (start_of t) cs ≡ Some n) where
    changed : (l : Label) → AreLabelled cs (labelled (start_of t) l cs) n l
    changed l = asks_other cs ascends.0 (start_of t) n l ascends.1 there

    pub projection : IsProjection cs n
    projection =
        let own = changed one_label in
        record { operand = own.operand; label = own.label; asked = own.asked; before = own.number; is_next = own.is_next; operand_there = own.operand_there }

    pub projected : (l : Label) → IsProjected tokens o l
    projected l = record {
      dot = t;
      is_before = before;
      commands = labelled (start_of t) l cs;
      are_commands = with_other l;
      number = n;
      there = same_number cs (start_of t) l ∙ there;
    }

    one_number : (l : Label) (h : IsProjected tokens o l) → h.number ≡ n
    one_number l h = let both : Some h.number ≡ Some n = sym (one_place l h) ∙ there in cc

    -- what the projection with the label is
    abbrev asking : Label → Place
    asking l = record { scope = (place_in cs n).scope; here = project projection.operand l }

    one_operand : (l : Label) → (changed l).operand ≡ projection.operand
    one_operand l = let both : project (changed l).operand (changed l).label ≡ project projection.operand projection.label = sym (changed l).asked ∙ projection.asked in cc

    asks_label : (l : Label) (h : IsProjected tokens o l) → place_in h.commands h.number ≡ asking l
    asks_label l h =
        (λ i. place_in (one_reading l h i) (one_number l h i))
        ∙ (changed l).asked_now
        ∙ ap (λ e. record { scope = (place_in cs n).scope; here = project e l }) (one_operand l)

    pub small_in : (l : Label) (h : IsProjected tokens o l) (d : Dialect) → IsSmallUpTo cs n d → IsSmallUpTo h.commands h.number d
    small_in l h d small =
        subst (λ k. IsSmallUpTo h.commands k d) (sym (one_number l h))
        (subst (λ ds. IsSmallUpTo ds n d) (sym (one_reading l h)) (small_with cs (labelled (start_of t) l cs) n l d (changed l) small))

    pub small_out : (l : Label) (h : IsProjected tokens o l) (d : Dialect) → IsSmallUpTo h.commands h.number d → IsSmallUpTo cs n d
    small_out l h d small =
        small_without cs (labelled (start_of t) l cs) n l d (changed l)
        (subst (λ ds. IsSmallUpTo ds n d) (one_reading l h) (subst (λ k. IsSmallUpTo h.commands k d) (one_number l h) small))

    -- a label has a type just where this projection has one when it asks for the label
    pub typable : (l : Label) (u : Typ) (d : Dialect) → HasLeast projection l u d → IsTypable tokens o l u d
    typable l u d least = record { projected = projected l; least = subst (IsLeastIn d u) (sym (asks_label l (projected l))) least }

    pub typable_least : (l : Label) (u : Typ) (d : Dialect) → IsTypable tokens o l u d → HasLeast projection l u d
    typable_least l u d h = subst (IsLeastIn d u) (asks_label l h.projected) h.least

    fields_are_labels : (items : List Item) (d : Dialect) → AreFields projection items d → AreLabels tokens o items d
    fields_are_labels items d are_fields = record {
      ascending = are_fields.ascending;
      each =
          All-weaker
          (λ i. (u : Typ) × HasLeast projection i.label u d × (i ≡ record { label = i.label; detail = Some (text_of_type u); is_field = true }))
          (λ i. (u : Typ) × IsTypable tokens o i.label u d × (i ≡ record { label = i.label; detail = Some (text_of_type u); is_field = true }))
          (λ i h. (h.0, typable i.label h.0 d h.1, h.2))
          items
          are_fields.each;
      every = λ l u h. are_fields.every l u (typable_least l u d h);
    }

    same_fields : (p : IsProjection cs n) (items : List Item) (d : Dialect) → AreFields p items d → AreFields projection items d
    same_fields p items d are_fields =
        let both : project p.operand p.label ≡ project projection.operand projection.label = sym p.asked ∙ projection.asked in
        let same : p.operand ≡ projection.operand = cc in
        let here : (l : Label) → project p.operand l ≡ project projection.operand l = λ l. ap (λ e. project e l) same in
        let scope = (place_in cs n).scope in record {
          ascending = are_fields.ascending;
          each =
              All-weaker
              (λ i. (u : Typ) × HasLeast p i.label u d × (i ≡ record { label = i.label; detail = Some (text_of_type u); is_field = true }))
              (λ i. (u : Typ) × HasLeast projection i.label u d × (i ≡ record { label = i.label; detail = Some (text_of_type u); is_field = true }))
              (λ i h. (h.0, subst (λ e. IsLeastAt scope e (Some h.0) d) (here i.label) h.1, h.2))
              items
              are_fields.each;
          every = λ l u h. are_fields.every l u (subst (λ e. IsLeastAt scope e (Some u) d) (sym (here l)) h);
        }

    -- what is listed of the one reading is what is listed of the text
    pub items_listed : (commands : List CommandTree) (items : List Item) (d : Dialect) → IsSmall commands d → AreListed cs n items d → AreItems commands tokens o items d
    items_listed commands items d small (fields p in_front are_fields) =
        labels one_label (projected one_label) small (small_in one_label (projected one_label) d in_front) (fields_are_labels items d (same_fields p items d are_fields))
    items_listed commands _ d small (too_large large) = labels_too_large one_label (projected one_label) (λ also in_front. large (small_out one_label (projected one_label) d in_front))

    -- nothing is listed where some type of the text is too large
    pub none_listed : (commands : List CommandTree) (d : Dialect) → (IsSmall commands d → ⊥) → AreItems commands tokens o [] d
    none_listed commands d large = labels_too_large one_label (projected one_label) (λ small in_front. large small)
