-- The tokens of a text with a label behind the dot: their names stand in order, so that they name commands; and another label changes nothing else.
use Rattle.std.proofs.Common.{◌≡◌, ◌==◌, ℕ, ◌+◌, ◌<◌, ◌≤◌, List, [], ◌∷◌, ◌++◌, map, Bool, true, false, cond, Option, Some, None, inl, inr, refl, sym, ap, ◌∙◌, subst, arith}
use Rattle.std.specs.Prelude.{filter, if◌then◌else◌}
use Rattle.std.specs.Option.{option_and_then}
use Rattle.std.specs.List.{AllByRecursion, last_or, list_any}
use Rattle.std.proofs.lemmas.Bool.{eqb-true, eq-eqb}
use Rattle.std.proofs.lemmas.List.{map-append}
use Rattle.lam_token.specs.declared.kind.Kind.{Kind}
use Rattle.lam_token.specs.declared.kind.Kind.TheVariants as kind
use Rattle.lam_token.specs.declared.span.Span.{Span}
use Rattle.lam_token.specs.Lexeme.{Lexeme, lexeme, kind_of, start_of, end_of}
use Rattle.lam_token.specs.Cut.{AreTokensOf}
use Rattle.lam_token.specs.Edits.{is_name_kind, respelled}
use Rattle.lam_rules.specs.Types.{Label}
use Rattle.lam_syntax.specs.Trees.{CommandTree}
use Rattle.lam_syntax.specs.Answers.{onto_first, runs_of, has_tokens, pieces_of}
use Rattle.lam_syntax.specs.Respelled.{respelled_command}
use Rattle.lam_syntax.proofs.RespelledTrees.{command_is_respelled}
use Rattle.lam_syntax.proofs.RespelledPieces.{pieces_respelled, taken_respelled}
use Rattle.lam_scope.specs.Labels.{labelling, labelled}
use Rattle.lam_scope.specs.Nesting.{TokensStand, NamesStand, AreNamedFrom}
use Rattle.lam_scope.proofs.SpelledMentions.{names_stand}
use Rattle.lam_query.specs.Commands.{IsCommandOf, AreCommandsOf}
use Rattle.lam_query.specs.Completions.{is_around, is_in_front, is_behind, if_dot, dot_before, with_label}
use Rattle.lam_query.proofs.Innermost.{text_stands}
use Rattle.lam_query.proofs.StandingTokens.{tokens_to_higher, some_stand, ends_in_front, behind_stand}

-- ---- names that stand in order, among other tokens

names_from_lower : (low next high : ℕ) (ts : List Lexeme) → low ≤ next → NamesStand next ts high → NamesStand low ts high
names_from_lower low next high [] le h = omega (arith, le, h)
names_from_lower low next high (lexeme kind.Name x s ∷ ts) le h = (omega (arith, le, h.0), h.1, h.2)
names_from_lower low next high (lexeme kind.TypeName x s ∷ ts) le h = (omega (arith, le, h.0), h.1, h.2)
names_from_lower low next high (t ∷ ts) le h = names_from_lower low next high ts le h

names_go_on : (low high : ℕ) (ts : List Lexeme) → NamesStand low ts high → low ≤ high
names_go_on low high [] h = h
names_go_on low high (lexeme kind.Name x s ∷ ts) h = let rest = names_go_on s.end high ts h.2 in omega (arith, h.0, h.1, rest)
names_go_on low high (lexeme kind.TypeName x s ∷ ts) h = let rest = names_go_on s.end high ts h.2 in omega (arith, h.0, h.1, rest)
names_go_on low high (t ∷ ts) h = names_go_on low high ts h

-- one more token, wherever it stands behind the byte
one_more : (low high : ℕ) (k : Kind) (x : List ℕ) (s : Span) (ts : List Lexeme) → low ≤ s.start → s.start < s.end → NamesStand s.end ts high → NamesStand low (lexeme k x s ∷ ts) high
one_more low high kind.Name x s ts first own h = (first, own, h)
one_more low high kind.TypeName x s ts first own h = (first, own, h)
one_more low high k x s ts first own h = names_from_lower low s.end high ts (omega (arith, first, own)) h

-- one more token that is no name
one_other : (low high : ℕ) (k : Kind) (x : List ℕ) (s : Span) (ts : List Lexeme) → is_name_kind k ≡ false → NamesStand low ts high → NamesStand low (lexeme k x s ∷ ts) high
one_other low high kind.Name x s ts other h = absurd cc
one_other low high kind.TypeName x s ts other h = absurd cc
one_other low high k x s ts other h = h

-- ---- pieces, the names of each behind those of the pieces before it

abbrev PiecesNamed : (low : ℕ) → List (List Lexeme) → Type 0
PiecesNamed low [] = Unit {0}
PiecesNamed low (p ∷ ps) = (high : ℕ) × NamesStand low p high × PiecesNamed high ps

pieces_from_lower : (low next : ℕ) (ps : List (List Lexeme)) → low ≤ next → PiecesNamed next ps → PiecesNamed low ps
pieces_from_lower low next [] le h = tt
pieces_from_lower low next (p ∷ ps) le h = (h.0, names_from_lower low next h.0 p le h.1, h.2)

name_onto : (low : ℕ) (k : Kind) (x : List ℕ) (s : Span) (runs : List (List Lexeme)) → low ≤ s.start → s.start < s.end → PiecesNamed s.end runs → PiecesNamed low (onto_first (lexeme k x s) runs)
name_onto low k x s [] first own h = (s.end, one_more low s.end k x s [] first own (omega arith), tt)
name_onto low k x s (run ∷ runs) first own h = (h.0, one_more low h.0 k x s run first own h.1, h.2)

other_onto : (low : ℕ) (k : Kind) (x : List ℕ) (s : Span) (runs : List (List Lexeme)) → is_name_kind k ≡ false → PiecesNamed low runs → PiecesNamed low (onto_first (lexeme k x s) runs)
other_onto low k x s [] other h = (low, one_other low low k x s [] other (omega arith), tt)
other_onto low k x s (run ∷ runs) other h = (h.0, one_other low h.0 k x s run other h.1, h.2)

runs_named : (low high : ℕ) (ts : List Lexeme) → NamesStand low ts high → PiecesNamed low (runs_of ts)
runs_named low high [] h = (low, omega arith, tt)
runs_named low high (lexeme kind.Name x s ∷ ts) h = name_onto low kind.Name x s (runs_of ts) h.0 h.1 (runs_named s.end high ts h.2)
runs_named low high (lexeme kind.TypeName x s ∷ ts) h = name_onto low kind.TypeName x s (runs_of ts) h.0 h.1 (runs_named s.end high ts h.2)
runs_named low high (lexeme kind.Semicolon x s ∷ ts) h = (low, omega arith, runs_named low high ts h)
runs_named low high (lexeme k x s ∷ ts) h = other_onto low k x s (runs_of ts) refl (runs_named low high ts h)

one_of : (low : ℕ) (b : Bool) (ps qs : List (List Lexeme)) → PiecesNamed low ps → PiecesNamed low qs → PiecesNamed low (cond b ps qs)
one_of low true ps qs h k = h
one_of low false ps qs h k = k

kept_named : (low : ℕ) (runs : List (List Lexeme)) → PiecesNamed low runs → PiecesNamed low (filter has_tokens runs)
kept_named low [] h = tt
kept_named low (run ∷ runs) h =
    let rest = kept_named h.0 runs h.2 in
    one_of low (has_tokens run) (run ∷ filter has_tokens runs) (filter has_tokens runs) (h.0, h.1, rest) (pieces_from_lower low h.0 (filter has_tokens runs) (names_go_on low h.0 run h.1) rest)

-- commands: a piece that is none is passed over

commands_named : (low : ℕ) (ps : List (List Lexeme)) (cs : List CommandTree) → PiecesNamed low ps → AreCommandsOf ps cs → AreNamedFrom low cs
commands_named low [] cs h are = rw are tt
commands_named low (p ∷ ps) cs h (inl are) = rw are.2 (p, h.0, are.3.spelled, h.1, commands_named h.0 ps are.1 h.2 are.4)
commands_named low (p ∷ ps) cs h (inr are) = commands_named low ps cs (pieces_from_lower low h.0 ps (names_go_on low h.0 p h.1) h.2) are.1

-- ---- the dot before the cursor is the last token in front of it

-- it is a dot, and stands in front of the cursor
pub record IsLast (o : ℕ) (front : List Lexeme) (t : Lexeme) : Type 0 where
  pub last : last_or None front ≡ Some t
  pub dot : kind_of t ≡ kind.Dot

pub dot_is_last : (o : ℕ) (tokens : List Lexeme) (t : Lexeme) → dot_before o tokens ≡ Some t → IsLast o (filter (is_in_front o) tokens) t
dot_is_last o tokens t is = by (list_any (is_around o) tokens) (last_or None (filter (is_in_front o) tokens)) refl is
  where
    own : (u : Lexeme) → if_dot u ≡ Some t → (Some u ≡ Some t) × (kind_of t ≡ kind.Dot)
    own (lexeme kind.Dot x s) same = (same, let e : lexeme kind.Dot x s ≡ t = cc in sym (ap kind_of e))
    own u same = absurd cc

    by : (b : Bool) (last : Option Lexeme) → last_or None (filter (is_in_front o) tokens) ≡ last → (if b then None else option_and_then if_dot last) ≡ Some t → IsLast o (filter (is_in_front o) tokens) t
    by true last e same = absurd cc
    by false None e same = absurd cc
    by false (Some u) e same = let found = own u same in record { last = e ∙ found.0; dot = found.1 }

-- the last of the tokens that pass a test passes it
last_passes : (test : Lexeme → Bool) (before : Option Lexeme) (ts : List Lexeme) (t : Lexeme) → ((u : Lexeme) → before ≡ Some u → test u ≡ true) → last_or before (filter test ts) ≡ Some t → test t ≡ true
last_passes test before [] t own is = own t is
last_passes test before (u ∷ us) t own is = by (last_passes test before us t own) (last_passes test (Some u) us t) (test u) refl is
  where
    by : (last_or before (filter test us) ≡ Some t → test t ≡ true) → (((v : Lexeme) → Some u ≡ Some v → test v ≡ true) → last_or (Some u) (filter test us) ≡ Some t → test t ≡ true)
        → (b : Bool) → test u ≡ b → last_or before (cond b (u ∷ filter test us) (filter test us)) ≡ Some t → test t ≡ true
    by without with true passes found = with (λ v same. let e : u ≡ v = cc in sym (ap test e) ∙ passes) found
    by without with false passes found = without found

-- the last of tokens that stand in order is not empty, and begins where the first does or behind it
last_stands : (low high : ℕ) (ts : List Lexeme) (t : Lexeme) → TokensStand low ts high → last_or None ts ≡ Some t → (low ≤ start_of t) × (start_of t < end_of t)
last_stands low high [] t h is = absurd cc
last_stands low high (lexeme k x s ∷ []) t h is = let e : lexeme k x s ≡ t = cc in (subst (λ u. low ≤ start_of u) e h.0, subst (λ u. start_of u < end_of u) e h.1)
last_stands low high (lexeme k x s ∷ u ∷ ts) t h is = let rest = last_stands s.end high (u ∷ ts) t h.2 is in (omega (arith, h.0, h.1, rest.0), rest.1)

-- the names in front of the dot end there or before it
names_to_dot : (low high more : ℕ) (front rest : List Lexeme) (t : Lexeme) → TokensStand low front high → last_or None front ≡ Some t → kind_of t ≡ kind.Dot → NamesStand (start_of t) rest more → NamesStand low (front ++ rest) more
names_to_dot low high more [] rest t h is dot k = absurd cc
names_to_dot low high more (lexeme j x s ∷ []) rest t h is dot k =
    let e : t ≡ lexeme j x s = cc in
    one_other low more j x s rest (ap is_name_kind (sym (ap kind_of e) ∙ dot)) (names_from_lower low s.start more rest h.0 (subst (λ u. NamesStand (start_of u) rest more) e k))
names_to_dot low high more (lexeme j x s ∷ u ∷ front) rest t h is dot k =
    one_more low more j x s ((u ∷ front) ++ rest) h.0 h.1 (names_to_dot s.end high more (u ∷ front) rest t h.2 is dot k)

-- ---- the tokens with the label

-- what is known of them
record Around (o : ℕ) (tokens : List Lexeme) (t : Lexeme) : Type 0 where
  high : ℕ
  stand : TokensStand 0 tokens high
  front : TokensStand 0 (filter (is_in_front o) tokens) high
  dot : IsLast o (filter (is_in_front o) tokens) t
  some : start_of t < end_of t
  ends : end_of t ≤ o
  under : o ≤ high

around_dot : (text : List ℕ) (tokens : List Lexeme) (o : ℕ) (t : Lexeme) → AreTokensOf text tokens → dot_before o tokens ≡ Some t → Around o tokens t
around_dot text tokens o t are is =
    let all = text_stands text tokens are in
    let stand = tokens_to_higher 0 all.0 o tokens all.1 in
    let front = some_stand (is_in_front o) 0 (all.0 + o) tokens stand in
    let dot = dot_is_last o tokens t is in
    let passes = last_passes (is_in_front o) None tokens t (λ u none. absurd cc) dot.last in
    record {
      high = all.0 + o;
      stand = stand;
      front = front;
      dot = dot;
      some = (last_stands 0 (all.0 + o) (filter (is_in_front o) tokens) t front dot.last).1;
      ends = ends_in_front o t passes;
      under = omega arith;
    }

-- their names stand in order
label_stands : (o : ℕ) (tokens : List Lexeme) (t : Lexeme) (l : Label) (a : Around o tokens t) → NamesStand 0 (with_label o t l tokens) a.high
label_stands o tokens t l a =
    let some = a.some in
    let ends = a.ends in
    let under = a.under in
    let behind = behind_stand o (start_of t + 1) 0 a.high tokens (omega (arith, some, ends)) (omega (arith, some, ends, under)) a.stand in
    names_to_dot 0 a.high a.high (filter (is_in_front o) tokens) _ t a.front a.dot.last a.dot.dot
    (omega arith, omega arith, names_stand (start_of t + 1) a.high (filter (is_behind o) tokens) behind)

-- with a label behind the dot, the commands of a text are spelled by tokens whose names stand in order
pub label_named : (text : List ℕ) (tokens : List Lexeme) (o : ℕ) (t : Lexeme) (l : Label) (cs : List CommandTree) → AreTokensOf text tokens → dot_before o tokens ≡ Some t
    → AreCommandsOf (pieces_of (with_label o t l tokens)) cs → AreNamedFrom 0 cs
label_named text tokens o t l cs are is commands =
    let a = around_dot text tokens o t are is in
    let all = with_label o t l tokens in
    commands_named 0 (pieces_of all) cs (kept_named 0 (runs_of all) (runs_named 0 a.high all (label_stands o tokens t l a))) commands

-- ---- another label

-- tokens with these letters for the name that begins at byte o
abbrev relabelled : ℕ → Label → List Lexeme → List Lexeme
relabelled o l ts = map (respelled (λ p. p) (labelling o l)) ts

-- a token that is no name, or begins elsewhere
abbrev IsElsewhere : ℕ → Lexeme → Type 0
IsElsewhere o t = kind_of t ≡ kind.Name → start_of t ≡ o → ⊥

chosen : (b : Bool) (o : ℕ) (l x : List ℕ) (s : Span) → (s.start == o) ≡ b → (s.start ≡ o → ⊥) → (if b then l else x) ≡ x
chosen true o l x s e other = absurd (other (eqb-true s.start o e))
chosen false o l x s e other = refl

letters_kept : (o : ℕ) (l : Label) (t : Lexeme) → IsElsewhere o t → respelled (λ p. p) (labelling o l) t ≡ t
letters_kept o l (lexeme kind.Name x s) other = ap (λ y. lexeme kind.Name y s) (chosen (s.start == o) o l x s refl (other refl))
letters_kept o l (lexeme k x s) other = refl

others_kept : (o : ℕ) (l : Label) (ts : List Lexeme) → AllByRecursion (IsElsewhere o) ts → relabelled o l ts ≡ ts
others_kept o l [] h = refl
others_kept o l (t ∷ ts) h = ap (λ u. u ∷ relabelled o l ts) (letters_kept o l t h.0) ∙ ap (λ us. t ∷ us) (others_kept o l ts h.1)

-- the dot is no name, and the others in front of the cursor begin in front of the dot
front_elsewhere : (low high : ℕ) (ts : List Lexeme) (t : Lexeme) → TokensStand low ts high → last_or None ts ≡ Some t → kind_of t ≡ kind.Dot → AllByRecursion (IsElsewhere (start_of t)) ts
front_elsewhere low high [] t h is dot = tt
front_elsewhere low high (lexeme k x s ∷ []) t h is dot = (λ name same. let e : t ≡ lexeme k x s = cc in let both : kind.Name ≡ kind.Dot = sym name ∙ sym (ap kind_of e) ∙ dot in absurd cc, tt)
front_elsewhere low high (lexeme k x s ∷ u ∷ ts) t h is dot =
    let last = last_stands s.end high (u ∷ ts) t h.2 is in
    (λ name same. absurd (omega (arith, h.1, last.0, same)), front_elsewhere s.end high (u ∷ ts) t h.2 is dot)

behind_elsewhere : (o low high : ℕ) (ts : List Lexeme) → o < low → TokensStand low ts high → AllByRecursion (IsElsewhere o) ts
behind_elsewhere o low high [] lt h = tt
behind_elsewhere o low high (lexeme k x s ∷ ts) lt h = (λ name same. absurd (omega (arith, lt, h.0, same)), behind_elsewhere o s.end high ts (omega (arith, lt, h.0, h.1)) h.2)

own_letters : (o : ℕ) (l k : Label) → (if o == o then l else k) ≡ l
own_letters o l k = ap (λ b. if b then l else k) (eq-eqb o o refl)

-- so only the label has other letters
label_relabelled : (o : ℕ) (tokens : List Lexeme) (t : Lexeme) (k l : Label) (a : Around o tokens t) → relabelled (start_of t) l (with_label o t k tokens) ≡ with_label o t l tokens
label_relabelled o tokens t k l a =
    let some = a.some in
    let ends = a.ends in
    let under = a.under in
    let here = start_of t in
    let front = filter (is_in_front o) tokens in
    let behind = filter (is_behind o) tokens in
    let later = behind_stand o (here + 1) 0 a.high tokens (omega (arith, some, ends)) (omega (arith, some, ends, under)) a.stand in
    let name = λ (x : List ℕ). lexeme kind.Name x (record { start = here; end = here + 1 }) in
    map-append (respelled (λ p. p) (labelling here l)) front (name k ∷ behind)
    ∙ ap (λ us. us ++ relabelled here l (name k ∷ behind)) (others_kept here l front (front_elsewhere 0 a.high front t a.front a.dot.last a.dot.dot))
    ∙ ap (λ x. front ++ name x ∷ relabelled here l behind) (own_letters here l k)
    ∙ ap (λ us. front ++ name l ∷ us) (others_kept here l behind (behind_elsewhere here (here + 1) a.high behind (omega arith) later))

-- a piece is a command with the other letters
command_relabelled : (o : ℕ) (l : Label) (p : List Lexeme) (c : CommandTree) → IsCommandOf p c → IsCommandOf (relabelled o l p) (respelled_command (λ p. p) (labelling o l) c)
command_relabelled o l p c is = record { taken = (taken_respelled (λ q. q) (labelling o l) p).1 is.taken; spelled = command_is_respelled (λ q. q) (labelling o l) p c is.spelled }

-- pieces are commands with them just where they were before, if their own letters come back
commands_relabelled : (o : ℕ) (k l : Label) (ps : List (List Lexeme)) (cs : List CommandTree) → map (relabelled o k) (map (relabelled o l) ps) ≡ ps → AreCommandsOf ps cs → AreCommandsOf (map (relabelled o l) ps) (labelled o l cs)
commands_relabelled o k l [] cs back are = ap (labelled o l) are
commands_relabelled o k l (p ∷ ps) cs back (inl are) =
    let others : map (relabelled o k) (map (relabelled o l) ps) ≡ ps = cc in
    inl (respelled_command (λ q. q) (labelling o l) are.0, labelled o l are.1, ap (labelled o l) are.2, command_relabelled o l p are.0 are.3, commands_relabelled o k l ps are.1 others are.4)
commands_relabelled o k l (p ∷ ps) cs back (inr are) =
    let own : relabelled o k (relabelled o l p) ≡ p = cc in
    let others : map (relabelled o k) (map (relabelled o l) ps) ≡ ps = cc in
    inr (λ c is. are.0 (respelled_command (λ q. q) (labelling o k) c) (subst (λ q. IsCommandOf q (respelled_command (λ r. r) (labelling o k) c)) own (command_relabelled o k (relabelled o l p) c is)), commands_relabelled o k l ps cs others are.1)

-- with another label behind the dot, the commands of a text are the same but for the letters at the dot's byte
pub label_changed : (text : List ℕ) (tokens : List Lexeme) (o : ℕ) (t : Lexeme) (k l : Label) (cs : List CommandTree) → AreTokensOf text tokens → dot_before o tokens ≡ Some t
    → AreCommandsOf (pieces_of (with_label o t k tokens)) cs → AreCommandsOf (pieces_of (with_label o t l tokens)) (labelled (start_of t) l cs)
label_changed text tokens o t k l cs are is commands =
    let a = around_dot text tokens o t are is in
    let here = start_of t in
    let ours = with_label o t k tokens in
    let there : pieces_of (with_label o t l tokens) ≡ map (relabelled here l) (pieces_of ours) = ap pieces_of (sym (label_relabelled o tokens t k l a)) ∙ pieces_respelled (λ p. p) (labelling here l) ours in
    let back : map (relabelled here k) (map (relabelled here l) (pieces_of ours)) ≡ pieces_of ours =
    ap (map (relabelled here k)) (sym there) ∙ sym (pieces_respelled (λ p. p) (labelling here k) (with_label o t l tokens)) ∙ ap pieces_of (label_relabelled o tokens t l k a) in
    subst (λ ps. AreCommandsOf ps (labelled here l cs)) (sym there) (commands_relabelled here k l (pieces_of ours) cs back commands)
