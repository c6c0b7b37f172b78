-- All references of a name have one definition, and the name is among them.
use Rattle.std.proofs.Common.{◌≡◌, ◌⊎◌, ℕ, suc, ◌<◌, ◌≤◌, List, [], ◌∷◌, Bool, true, false, ltb, not, Option, Some, None, inl, inr, refl, sym, ap, subst, ◌∙◌, arith}
use Rattle.std.specs.Prelude.{◌==◌, ◌&&◌, if◌then◌else◌}
use Rattle.std.specs.Option.{option_map, option_or, option_and_then}
use Rattle.std.specs.List.{All, AllByRecursion, Contains, cons_option, find}
use Rattle.std.proofs.lemmas.Bool.{eqb-true, lt-ltb, le-ltb}
use Rattle.std.proofs.lemmas.List.Elements.{All-from_recursion, All-contains}
use Rattle.lam_token.specs.declared.span.Span.{Span}
use Rattle.lam_token.specs.Edits.{is_span, is_name_kind}
use Rattle.lam_token.specs.Lexeme.{Lexeme, lexeme, kind_of, span_of, start_of}
use Rattle.lam_token.specs.Cut.{AreTokensOf}
use Rattle.lam_token.proofs.Cuts.{one_list}
use Rattle.lam_syntax.specs.Trees.{CommandTree}
use Rattle.lam_syntax.specs.Answers.{pieces_of}
use Rattle.lam_scope.specs.Nesting.{TokensStand}
use Rattle.lam_scope.specs.Mentions.{Mention, binds_at, uses_at, labels_at, token_of, binder_of, mentions, bound_at, use_bound_to, uses_of, Ascend}
use Rattle.lam_scope.proofs.UseChains.{same_number, other_number}
use Rattle.lam_scope.proofs.BoundMentions.{same_token, binder_holds}
use Rattle.lam_query.specs.Commands.{AreCommandsOf}
use Rattle.lam_query.specs.Touched.{is_name_over, is_name_before, touched}
use Rattle.lam_query.specs.Definitions.{definition_in, references_to, IsDefinitionIn, AreReferencesIn, AreApart}
use Rattle.lam_query.proofs.Innermost.{text_stands}
use Rattle.lam_query.proofs.NameTokens.{IfName, InNames, names_in}
use Rattle.lam_query.proofs.Defining.{text_ascends}
use Rattle.lam_query.proofs.DefinitionLaws.{one_definition}

-- claims about each element

pub each : {A : Type 0} (P R : A → Type 0) (xs : List A) → ((x : A) → P x → R x) → AllByRecursion P xs → AllByRecursion R xs
each P R [] f h = tt
each P R (x ∷ xs) f h = (f x h.0, each P R xs f h.1)

pub both_of : {A : Type 0} (P R : A → Type 0) (xs : List A) → AllByRecursion P xs → AllByRecursion R xs → AllByRecursion (λ x. P x × R x) xs
both_of P R [] h k = tt
both_of P R (x ∷ xs) h k = ((h.0, k.0), both_of P R xs h.1 k.1)

-- an element
abbrev IsIn : Span → List Span → Type 0
IsIn s [] = ⊥
IsIn s (t ∷ ts) = (s ≡ t) ⊎ IsIn s ts

contained : (s : Span) (ts : List Span) → IsIn s ts → Contains ts s
contained s [] h = absurd h
contained s (t ∷ ts) (inl e) = (0, omega arith, sym e)
contained s (t ∷ ts) (inr h) = let inner = contained s ts h in let within = inner.1 in (suc inner.0, omega arith, inner.2)

in_all : (P : Span → Type 0) (s : Span) (ts : List Span) → AllByRecursion P ts → IsIn s ts → P s
in_all P s [] h is = absurd is
in_all P s (t ∷ ts) h (inl e) = subst P (sym e) h.0
in_all P s (t ∷ ts) h (inr is) = in_all P s ts h.1 is

-- a name is touched at its first byte

over_itself : (k : Bool) (s : Span) → k ≡ true → s.start < s.end → (k && (not (ltb s.start s.start) && ltb s.start s.end)) ≡ true
over_itself k s name some = let not_before : ltb s.start s.start ≡ false = le-ltb s.start s.start (omega arith) in let inside = lt-ltb s.start s.end some in rw (name, not_before, inside) refl

behind_it : (k b : Bool) (o end : ℕ) → end ≤ o → (k && (b && ltb o end)) ≡ false
behind_it true true o end le = le-ltb o end le
behind_it true false o end le = refl
behind_it false b o end le = refl

abbrev pub FoundFrom : ℕ → List Lexeme → Lexeme → Type 0
FoundFrom low ts t = (low ≤ start_of t) × (is_name_kind (kind_of t) ≡ true → find (is_name_over (start_of t)) ts ≡ Some t)

pub found_each : (low high : ℕ) (ts : List Lexeme) → TokensStand low ts high → AllByRecursion (FoundFrom low ts) ts
found_each low high [] h = tt
found_each low high (lexeme k x s ∷ ts) h = (
  (h.0, λ name. rw (over_itself (is_name_kind k) s name h.1) refl),
  each (FoundFrom s.end ts) (FoundFrom low (lexeme k x s ∷ ts)) ts
      (λ t found.
      let first = h.0 in
      let some = h.1 in
      let behind = found.0 in
      (omega arith, λ name. rw (behind_it (is_name_kind k) (not (ltb (start_of t) s.start)) (start_of t) s.end found.0) (found.1 name)))
      (found_each s.end high ts h.2),
)

-- a token is touched at the first byte of this place, and has it
abbrev IsTouchedAt : List Lexeme → Span → Type 0
IsTouchedAt ts s = (t : Lexeme) × (span_of t ≡ s) × (touched s.start ts ≡ Some t)

pub found_touched : (ts : List Lexeme) (t : Lexeme) → find (is_name_over (start_of t)) ts ≡ Some t → touched (start_of t) ts ≡ Some t
found_touched ts t found = ap (λ o. option_or o (find (is_name_before (start_of t)) ts)) found

names_touched : (text : List ℕ) (ts : List Lexeme) → AreTokensOf text ts → InNames (λ k s. IsTouchedAt ts s) ts
names_touched text ts are =
    let stand = text_stands text ts are in
    each (FoundFrom 0 ts) (IfName (λ k s. IsTouchedAt ts s)) ts (λ t found name. (t, refl, found_touched ts t (found.1 name))) (found_each 0 stand.0 ts stand.1)

-- the touched token is a name of the text

find_holds : (P : Lexeme → Type 0) (p : Lexeme → Bool) (ts : List Lexeme) (t : Lexeme) → AllByRecursion P ts → find p ts ≡ Some t → P t × (p t ≡ true)
find_holds P p [] t h is = absurd cc
find_holds P p (u ∷ ts) t h is = by (λ found. find_holds P p ts t h.1 found) (p u) refl is
  where
    by : (find p ts ≡ Some t → P t × (p t ≡ true)) → (b : Bool) → p u ≡ b → (if b then Some u else find p ts) ≡ Some t → P t × (p t ≡ true)
    by rest true e here = let same : u ≡ t = cc in subst (λ v. P v × (p v ≡ true)) same (h.0, e)
    by rest false e behind = rest behind

left_true : (a b : Bool) → (a && b) ≡ true → a ≡ true
left_true true b h = refl
left_true false b h = absurd cc

pub touched_holds : (P : Lexeme → Type 0) (o : ℕ) (ts : List Lexeme) (t : Lexeme) → AllByRecursion P ts → touched o ts ≡ Some t → P t × (is_name_kind (kind_of t) ≡ true)
touched_holds P o ts t h is = by (find (is_name_over o) ts) refl is
  where
    by : (f : Option Lexeme) → find (is_name_over o) ts ≡ f → option_or f (find (is_name_before o) ts) ≡ Some t → P t × (is_name_kind (kind_of t) ≡ true)
    by (Some u) e over = let held = find_holds P (is_name_over o) ts t h (e ∙ over) in (held.0, left_true (is_name_kind (kind_of t)) _ held.1)
    by None e before = let held = find_holds P (is_name_before o) ts t h before in (held.0, left_true (is_name_kind (kind_of t)) _ held.1)

-- each mention is the one that begins where it does

abbrev ToldFrom : ℕ → List Mention → Mention → Type 0
ToldFrom low ms m = (low ≤ (token_of m).start) × (bound_at (token_of m).start ms ≡ binder_of m)

told_each : (low high : ℕ) (ms : List Mention) → Ascend low ms high → AllByRecursion (ToldFrom low ms) ms
told_each low high [] h = tt
told_each low high (m ∷ ms) h = (
  (h.0, ap (λ b. if b then binder_of m else bound_at (token_of m).start ms) (same_number (token_of m).start (token_of m).start refl)),
  each (ToldFrom (token_of m).end ms) (ToldFrom low (m ∷ ms)) ms
      (λ n told.
      let first = h.0 in
      let some = h.1 in
      let behind = told.0 in
      (omega arith, ap (λ b. if b then binder_of m else bound_at (token_of n).start ms) (other_number (token_of m).start (token_of n).start (λ e. omega arith)) ∙ told.1))
      (told_each (token_of m).end high ms h.2),
)

-- the uses of a binder are bound to it

pub one_token : (b c : Span) → is_span b c ≡ true → b ≡ c
one_token b c is = by (b.start == c.start) (b.end == c.end) refl refl is
  where
    by : (x y : Bool) → (b.start == c.start) ≡ x → (b.end == c.end) ≡ y → (x && y) ≡ true → b ≡ c
    by true true e f h = let starts = eqb-true b.start c.start e in let ends = eqb-true b.end c.end f in λ i. record { start = starts i; end = ends i }
    by true false e f h = absurd cc
    by false y e f h = absurd cc

-- the name that begins where this one does is bound to this binder, and Q holds of this one
abbrev Shares : (Span → Type 0) → List Mention → (b s : Span) → Type 0
Shares Q all b s = (bound_at s.start all ≡ Some b) × Q s

abbrev IsTold : (Span → Type 0) → List Mention → Mention → Type 0
IsTold Q all m = (bound_at (token_of m).start all ≡ binder_of m) × Q (token_of m)

use_shares : (Q : Span → Type 0) (all : List Mention) (b c s : Span) (us : List Span) (is : Bool) → is_span b c ≡ is → bound_at s.start all ≡ Some c → Q s → AllByRecursion (Shares Q all b) us
    → AllByRecursion (Shares Q all b) (cons_option (if is then Some s else None) us)
use_shares Q all b c s us true is told q h = ((told ∙ ap Some (sym (one_token b c is)), q), h)
use_shares Q all b c s us false is told q h = h

uses_share : (Q : Span → Type 0) (all : List Mention) (b : Span) (ms : List Mention) → AllByRecursion (IsTold Q all) ms → AllByRecursion (Shares Q all b) (uses_of b ms)
uses_share Q all b [] h = tt
uses_share Q all b (uses_at k s (Some c) ∷ ms) h = use_shares Q all b c s (uses_of b ms) (is_span b c) refl h.0.0 h.0.1 (uses_share Q all b ms h.1)
uses_share Q all b (m ∷ ms) h = uses_share Q all b ms h.1

-- the name is among them

kept_in : (kept : Option Span) (s : Span) (us : List Span) → IsIn s us → IsIn s (cons_option kept us)
kept_in None s us h = h
kept_in (Some t) s us h = inr h

still_in : (b s : Span) (kept : Option Span) (us : List Span) → IsIn s (b ∷ us) → IsIn s (b ∷ cons_option kept us)
still_in b s kept us (inl e) = inl e
still_in b s kept us (inr h) = inr (kept_in kept s us h)

mention_in : (b : Span) (m : Mention) (us : List Span) → binder_of m ≡ Some b → IsIn (token_of m) (b ∷ cons_option (use_bound_to b m) us)
mention_in b (binds_at k s) us is = inl (let same : s ≡ b = cc in same)
mention_in b (uses_at k s None) us is = absurd cc
mention_in b (uses_at k s (Some c)) us is =
    let same : c ≡ b = cc in
    let own : is_span b c ≡ true = same_token b c (sym same) in
    inr (rw own (inl refl))
mention_in b (labels_at s) us is = absurd cc

found_in : (o : ℕ) (b : Span) (ms : List Mention) → bound_at o ms ≡ Some b → (s : Span) × (s.start ≡ o) × IsIn s (b ∷ uses_of b ms)
found_in o b [] is = absurd cc
found_in o b (m ∷ ms) is = by (λ behind. found_in o b ms behind) ((token_of m).start == o) refl is
  where
    by : (bound_at o ms ≡ Some b → (s : Span) × (s.start ≡ o) × IsIn s (b ∷ uses_of b ms)) → (here : Bool) → ((token_of m).start == o) ≡ here → (if here then binder_of m else bound_at o ms) ≡ Some b → (s : Span) × (s.start ≡ o) × IsIn s (b ∷ uses_of b (m ∷ ms))
    by rest true e first = (token_of m, eqb-true (token_of m).start o e, mention_in b m (uses_of b ms) first)
    by rest false e behind = let inner = rest behind in (inner.0, inner.1, still_in b inner.0 (use_bound_to b m) (uses_of b ms) inner.2)

-- a binder and its uses, in a text

all_share : (text : List ℕ) (ts : List Lexeme) (cs : List CommandTree) (o : ℕ) (b : Span) → AreTokensOf text ts → AreCommandsOf (pieces_of ts) cs → bound_at o (mentions cs) ≡ Some b
    → AllByRecursion (Shares (IsTouchedAt ts) (mentions cs) b) (b ∷ uses_of b (mentions cs))
all_share text ts cs o b are commands is =
    let ms = mentions cs in
    let ascend = text_ascends text ts cs are commands in
    let told = each (ToldFrom 0 ms) (λ m. bound_at (token_of m).start ms ≡ binder_of m) ms (λ m h. h.1) (told_each 0 ascend.0 ms ascend.1) in
    let named = names_in (λ k s. IsTouchedAt ts s) ts cs commands (names_touched text ts are) in
    let all = both_of (λ m. bound_at (token_of m).start ms ≡ binder_of m) (λ m. IsTouchedAt ts (token_of m)) ms told named in
    ((binder_holds (IsTold (IsTouchedAt ts) ms) cs ascend.0 o b ascend.1 is all).1, uses_share (IsTouchedAt ts) ms b ms all)

listed_share : (P : Span → Type 0) (declared : Bool) (b : Span) (us : List Span) → AllByRecursion P (b ∷ us) → AllByRecursion P (if declared then b ∷ us else us)
listed_share P true b us h = h
listed_share P false b us h = h.1

shared_definition : (text : List ℕ) (ts : List Lexeme) (cs : List CommandTree) (b s : Span) → AreTokensOf text ts → AreCommandsOf (pieces_of ts) cs → Shares (IsTouchedAt ts) (mentions cs) b s
    → IsDefinitionIn text s.start (Some b)
shared_definition text ts cs b s are commands (is, (t, place, here)) = record {
  tokens = ts;
  are_tokens = are;
  commands = cs;
  are_commands = commands;
  told = sym (ap (option_and_then (λ u. bound_at (start_of u) (mentions cs))) here ∙ ap (λ p. bound_at p.start (mentions cs)) place ∙ is);
}

-- where a name is bound, and what is bound there
bound_where : (cs : List CommandTree) (t : Option Lexeme) (b : Span) → option_and_then (λ u. bound_at (start_of u) (mentions cs)) t ≡ Some b → (o : ℕ) × bound_at o (mentions cs) ≡ Some b
bound_where cs None b is = absurd cc
bound_where cs (Some t) b is = (start_of t, is)

pub references_share : (text : List ℕ) (o : ℕ) (declared : Bool) (spans : List Span) → AreReferencesIn text o declared (Some spans)
    → (b : Span) × IsDefinitionIn text o (Some b) × All (λ s. IsDefinitionIn text s.start (Some b)) spans
references_share text o declared spans h = by (definition_in h.tokens h.commands o) refl h.told
  where
    by : (found : Option Span) → definition_in h.tokens h.commands o ≡ found → Some spans ≡ option_map (references_to h.commands declared) found
        → (b : Span) × IsDefinitionIn text o (Some b) × All (λ s. IsDefinitionIn text s.start (Some b)) spans
    by None is told = absurd cc
    by (Some b) is told =
        let same : spans ≡ references_to h.commands declared b = cc in
        let at = bound_where h.commands (touched o h.tokens) b is in
        let shares = all_share text h.tokens h.commands at.0 b h.are_tokens h.are_commands at.1 in
        let listed = listed_share (Shares (IsTouchedAt h.tokens) (mentions h.commands) b) declared b (uses_of b (mentions h.commands)) shares in
        let defined =
        each (Shares (IsTouchedAt h.tokens) (mentions h.commands) b) (λ s. IsDefinitionIn text s.start (Some b)) (references_to h.commands declared b)
        (λ s one. shared_definition text h.tokens h.commands b s h.are_tokens h.are_commands one) listed in (
          b,
          record { tokens = h.tokens; are_tokens = h.are_tokens; commands = h.commands; are_commands = h.are_commands; told = sym is },
          All-from_recursion (λ s. IsDefinitionIn text s.start (Some b)) spans (subst (AllByRecursion (λ s. IsDefinitionIn text s.start (Some b))) (sym same) defined),
        )

-- the touched name has the place of the name that begins there
same_place : (text : List ℕ) (ts : List Lexeme) (o : ℕ) (t : Lexeme) (s : Span) → AreTokensOf text ts → touched o ts ≡ Some t → IsTouchedAt ts s → s.start ≡ start_of t → s ≡ span_of t
same_place text ts o t s are is (u, place, here) begins =
    let held = touched_holds (IfName (λ k s. IsTouchedAt ts s)) o ts t (names_touched text ts are) is in
    let own = held.0 held.1 in
    let both : Some u ≡ Some own.0 = sym here ∙ ap (λ n. touched n ts) begins ∙ own.2 in
    let same : u ≡ own.0 = cc in
    sym place ∙ ap span_of same ∙ own.1

pub touched_among : (text : List ℕ) (o : ℕ) (spans : List Span) (ts : List Lexeme) (t : Lexeme) → AreTokensOf text ts → touched o ts ≡ Some t → AreReferencesIn text o true (Some spans) → Contains spans (span_of t)
touched_among text o spans ts t are touches h = by (bound_at (start_of t) ms) refl (h.told ∙ ap (λ u. option_map (references_to cs true) (option_and_then (λ v. bound_at (start_of v) ms) u)) touched_there)
  where
    cs : List CommandTree
    cs = h.commands

    ms : List Mention
    ms = mentions h.commands

    touched_there : touched o h.tokens ≡ Some t
    touched_there = ap (touched o) (sym (one_list text h.tokens ts h.are_tokens are)) ∙ touches

    by : (found : Option Span) → bound_at (start_of t) ms ≡ found → Some spans ≡ option_map (references_to cs true) found → Contains spans (span_of t)
    by None is told = absurd cc
    by (Some b) is told =
        let same : spans ≡ b ∷ uses_of b ms = cc in
        let here = found_in (start_of t) b ms is in
        let shares = all_share text h.tokens cs (start_of t) b h.are_tokens h.are_commands is in
        let at = in_all (Shares (IsTouchedAt h.tokens) ms b) here.0 (b ∷ uses_of b ms) shares here.2 in
        let place = same_place text h.tokens o t here.0 h.are_tokens touched_there at.1 here.1 in
        contained (span_of t) spans (subst (IsIn (span_of t)) (sym same) (subst (λ (s : Span). IsIn s (b ∷ uses_of b ms)) place here.2))

-- two definitions of a name are one
one_binder : (text : List ℕ) (o : ℕ) (b c : Span) → IsDefinitionIn text o (Some b) → IsDefinitionIn text o (Some c) → b ≡ c
one_binder text o b c h k = let both = one_definition text o (Some b) (Some c) h k in cc

-- a span that is a reference of two names tells their binder
pub references_apart : (text : List ℕ) (o p : ℕ) (declared also : Bool) (spans others : List Span) → AreReferencesIn text o declared (Some spans) → AreReferencesIn text p also (Some others)
    → AreApart text o p spans others
references_apart text o p declared also spans others are others_are b c s of_one of_other apart in_one in_other =
    let one = references_share text o declared spans are in
    let other = references_share text p also others others_are in
    let here = All-contains (λ t. IsDefinitionIn text t.start (Some one.0)) spans s one.2 in_one in
    let there = All-contains (λ t. IsDefinitionIn text t.start (Some other.0)) others s other.2 in_other in
    apart (one_binder text o b one.0 of_one one.1 ∙ one_binder text s.start one.0 other.0 here there ∙ one_binder text p other.0 c other.1 of_other)
