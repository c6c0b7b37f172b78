-- Tokens elsewhere, with the same letters: they spell the same commands, elsewhere, and the tokens and the grammar decide the same faults, elsewhere.
use Rattle.std.proofs.Common.{◌≡◌, ◌<◌, ◌≤◌, ◌-◌, ◌+◌, ℕ, ◌||◌, List, [], ◌∷◌, ◌++◌, length, map, refl, ap, sym, subst, ◌∙◌, Option, Some, None}
use Rattle.std.specs.Prelude.{slice_get, take}
use Rattle.std.specs.List.{filter_map, cons_option}
use Rattle.std.specs.Option.{option_map, option_to_list}
use Rattle.std.proofs.lemmas.List.{map-append, length-map, take-map}
use Rattle.std.proofs.lemmas.Option.{slice_get-map}
use Rattle.lam_token.specs.declared.kind.Kind.TheVariants as kind
use Rattle.lam_token.specs.Edits.{span_placed, respelled}
use Rattle.lam_token.specs.Lexeme.{Lexeme, lexeme, kind_of}
use Rattle.lam_token.specs.MovedTokens.{placed_by}
use Rattle.lam_syntax.specs.Answers.{token_limit, is_bad, has_bad, IsLexed, GoesWrongAt, EndsEarly, pieces_of}
use Rattle.lam_syntax.specs.Grammar.{Spells, Begins}
use Rattle.lam_syntax.specs.Trees.{CommandTree}
use Rattle.lam_syntax.proofs.RespelledPieces.{pieces_respelled, taken_respelled}
use Rattle.lam_syntax.proofs.RespelledTrees.{command_is_respelled}
use Rattle.lam_syntax.proofs.SameKinds.{same_kinds_spell}
use Rattle.lam_query.specs.Faults.{Fault}
use Rattle.lam_query.specs.SyntaxFaults.{fault_of_token, PieceFault, too_long, spoiled, a_command, goes_wrong, ends_early, PieceFaults, AreSyntaxFaults}
use Rattle.lam_query.specs.inner.OnePiece.{IsOwnOf, one_command, no_command}
use Rattle.lam_query.proofs.TermsAfter.{command_there}

-- ---- elsewhere, with the same letters

abbrev token_there : (ℕ → ℕ) → Lexeme → Lexeme
token_there place = respelled place (λ kind text span. text)

abbrev tokens_there : (ℕ → ℕ) → List Lexeme → List Lexeme
tokens_there place = map (token_there place)

-- the same fault
abbrev pub fault_there : (ℕ → ℕ) → Fault → Fault
fault_there place f = record { code = f.code; span = span_placed place f.span }

module _ (place : ℕ → ℕ) where
  same_token : (t : Lexeme) → token_there place t ≡ placed_by place t
  same_token (lexeme k x s) = refl

  same_tokens : (ts : List Lexeme) → tokens_there place ts ≡ map (placed_by place) ts
  same_tokens [] = refl
  same_tokens (t ∷ ts) = λ i. same_token t i ∷ same_tokens ts i

  -- ---- what they spell

  kinds_kept : (ts : List Lexeme) → map kind_of (tokens_there place ts) ≡ map kind_of ts
  kinds_kept [] = refl
  kinds_kept (lexeme k x s ∷ ts) = ap (λ ks. k ∷ ks) (kinds_kept ts)

  spelled_there : (ts : List Lexeme) (c : CommandTree) → Spells ts c → Spells (tokens_there place ts) (command_there place c)
  spelled_there ts c is = command_is_respelled place (λ kind text span. text) ts c is

  spelled_here : (ts : List Lexeme) (c : CommandTree) → Spells (tokens_there place ts) c → (d : CommandTree) × Spells ts d
  spelled_here ts c is = same_kinds_spell (tokens_there place ts) ts c (kinds_kept ts) is

  taken_there : (ts : List Lexeme) → IsLexed ts → IsLexed (tokens_there place ts)
  taken_there ts taken = (taken_respelled place (λ kind text span. text) ts).1 taken

  taken_here : (ts : List Lexeme) → IsLexed (tokens_there place ts) → IsLexed ts
  taken_here ts taken = (taken_respelled place (λ kind text span. text) ts).0 taken

  own_there : (ts : List Lexeme) (own : List CommandTree) → IsOwnOf ts own → IsOwnOf (tokens_there place ts) (map (command_there place) own)
  own_there ts _ (one_command {c = c} is) = one_command (record { taken = taken_there ts is.taken; spelled = spelled_there ts c is.spelled })
  own_there ts _ (no_command none) =
      no_command (λ c is. let other = spelled_here ts c is.spelled in none other.0 (record { taken = taken_here ts is.taken; spelled = other.1 }))

  pub own_placed : (ts : List Lexeme) (own : List CommandTree) → IsOwnOf ts own → IsOwnOf (map (placed_by place) ts) (map (command_there place) own)
  own_placed ts own is = subst (λ us. IsOwnOf us (map (command_there place) own)) (same_tokens ts) (own_there ts own is)

  -- ---- what commands begin with

  begins_there : (ts : List Lexeme) → Begins ts → Begins (tokens_there place ts)
  begins_there ts (more, c, is) = (
    tokens_there place more,
    command_there place c,
    subst (λ us. Spells us (command_there place c)) (map-append (token_there place) ts more) (spelled_there (ts ++ more) c is),
  )

  begins_here : (ts : List Lexeme) → Begins (tokens_there place ts) → Begins ts
  begins_here ts (more, c, is) =
      let kinds = map-append kind_of (tokens_there place ts) more ∙ ap (λ ks. ks ++ map kind_of more) (kinds_kept ts) ∙ sym (map-append kind_of ts more) in
      let other = same_kinds_spell (tokens_there place ts ++ more) (ts ++ more) c kinds is in
      (more, other.0, other.1)

  taken_off : (k : ℕ) (ts : List Lexeme) → take k (tokens_there place ts) ≡ tokens_there place (take k ts)
  taken_off k ts = take-map (token_there place) k ts

  long : (ts : List Lexeme) → length (tokens_there place ts) ≡ length ts
  long ts = length-map ts (token_there place)

  wrong_there : (ts : List Lexeme) (k : ℕ) → GoesWrongAt ts k → GoesWrongAt (tokens_there place ts) k
  wrong_there ts k wrong = record {
    inside = subst (λ n. k < n) (sym (long ts)) wrong.inside;
    before = subst Begins (sym (taken_off k ts)) (begins_there (take k ts) wrong.before);
    through = λ begins. wrong.through (begins_here (take (k + 1) ts) (subst Begins (taken_off (k + 1) ts) begins));
  }

  early_there : (ts : List Lexeme) → EndsEarly ts → EndsEarly (tokens_there place ts)
  early_there ts early = record {
    begins = begins_there ts early.begins;
    none = λ c is. let other = spelled_here ts c is in early.none other.0 other.1;
  }

  -- ---- the faults of pieces

  token_at : (ts : List Lexeme) (k : ℕ) (t : Lexeme) → slice_get ts k ≡ Some t → slice_get (tokens_there place ts) k ≡ Some (token_there place t)
  token_at ts k t at = slice_get-map (token_there place) ts k ∙ ap (option_map (token_there place)) at

  last_at : (ts : List Lexeme) (t : Lexeme) → slice_get ts (length ts - 1) ≡ Some t
      → slice_get (tokens_there place ts) (length (tokens_there place ts) - 1) ≡ Some (token_there place t)
  last_at ts t at = ap (λ n. slice_get (tokens_there place ts) (n - 1)) (long ts) ∙ token_at ts (length ts - 1) t at

  bad_kept : (ts : List Lexeme) → has_bad (tokens_there place ts) ≡ has_bad ts
  bad_kept [] = refl
  bad_kept (lexeme k x s ∷ ts) = ap (λ bad. is_bad k || bad) (bad_kept ts)

  piece_there : (ts : List Lexeme) (one : Option Fault) → PieceFault ts one → PieceFault (tokens_there place ts) (option_map (fault_there place) one)
  piece_there ts _ (too_long {first = lexeme j x r} {last = lexeme k y s} over at_first at_last) =
      too_long {first = lexeme j x (span_placed place r)} {last = lexeme k y (span_placed place s)} (subst (λ n. token_limit < n) (sym (long ts)) over)
      (token_at ts 0 (lexeme j x r) at_first) (last_at ts (lexeme k y s) at_last)
  piece_there ts _ (spoiled few bad) = spoiled (subst (λ n. n ≤ token_limit) (sym (long ts)) few) (bad_kept ts ∙ bad)
  piece_there ts _ (a_command {c = c} taken spells) = a_command (taken_there ts taken) (spelled_there ts c spells)
  piece_there ts _ (goes_wrong {k = k} {t = lexeme j x s} taken wrong at) =
      goes_wrong {k = k} {t = lexeme j x (span_placed place s)} (taken_there ts taken) (wrong_there ts k wrong) (token_at ts k (lexeme j x s) at)
  piece_there ts _ (ends_early {last = lexeme j x s} taken early at) =
      ends_early {last = lexeme j x (span_placed place s)} (taken_there ts taken) (early_there ts early) (last_at ts (lexeme j x s) at)

  listed : (o : Option Fault) → map (fault_there place) (option_to_list o) ≡ option_to_list (option_map (fault_there place) o)
  listed None = refl
  listed (Some f) = refl

  pieces_there : (ps : List (List Lexeme)) (fs : List Fault) → PieceFaults ps fs → PieceFaults (map (tokens_there place) ps) (map (fault_there place) fs)
  pieces_there [] fs are = ap (map (fault_there place)) are
  pieces_there (p ∷ ps) fs (one, others, is, are, all) =
      let joined = ap (map (fault_there place)) all ∙ map-append (fault_there place) (option_to_list one) others
      ∙ ap (λ gs. gs ++ map (fault_there place) others) (listed one) in
      (option_map (fault_there place) one, map (fault_there place) others, piece_there p one is, pieces_there ps others are, joined)

  -- ---- the faults of tokens

  token_fault : (t : Lexeme) → fault_of_token (token_there place t) ≡ option_map (fault_there place) (fault_of_token t)
  token_fault (lexeme kind.BadCharacter x s) = refl
  token_fault (lexeme kind.BadComment x s) = refl
  token_fault t = refl

  first_told : (o : Option Fault) (fs : List Fault)
      → cons_option (option_map (fault_there place) o) (map (fault_there place) fs) ≡ map (fault_there place) (cons_option o fs)
  first_told None fs = refl
  first_told (Some f) fs = refl

  token_faults : (ts : List Lexeme) → filter_map fault_of_token (tokens_there place ts) ≡ map (fault_there place) (filter_map fault_of_token ts)
  token_faults [] = refl
  token_faults (t ∷ ts) = (λ i. cons_option (token_fault t i) (token_faults ts i)) ∙ first_told (fault_of_token t) (filter_map fault_of_token ts)

  -- ---- all of them

  syntax_there : (ts : List Lexeme) (fs : List Fault) → AreSyntaxFaults ts fs → AreSyntaxFaults (tokens_there place ts) (map (fault_there place) fs)
  syntax_there ts fs are = record {
    of_pieces = map (fault_there place) are.of_pieces;
    pieces =
        subst (λ ps. PieceFaults ps (map (fault_there place) are.of_pieces)) (sym (pieces_respelled place (λ kind text span. text) ts))
        (pieces_there (pieces_of ts) are.of_pieces are.pieces);
    all =
        ap (map (fault_there place)) are.all ∙ map-append (fault_there place) (filter_map fault_of_token ts) are.of_pieces
        ∙ ap (λ gs. gs ++ map (fault_there place) are.of_pieces) (sym (token_faults ts));
  }

  pub syntax_placed : (ts : List Lexeme) (fs : List Fault) → AreSyntaxFaults ts fs → AreSyntaxFaults (map (placed_by place) ts) (map (fault_there place) fs)
  syntax_placed ts fs are = subst (λ us. AreSyntaxFaults us (map (fault_there place) fs)) (same_tokens ts) (syntax_there ts fs are)
