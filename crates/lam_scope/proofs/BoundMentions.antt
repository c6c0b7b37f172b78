-- What a table tells of the name at a byte, and of the uses and the kind of a binder, is what the mentions of the text tell, if these come one after another.
use Rattle.std.proofs.Common.{◌≡◌, ◌≢◌, ℕ, ◌+◌, ◌<◌, ◌≤◌, ◌==◌, ◌⊎◌, inl, inr, List, [], ◌∷◌, length, refl, ap, sym, ◌∙◌, subst, arith, map, Option, Some, None, Bool, true, false}
use Rattle.std.specs.Prelude.{if◌then◌else◌, filter, ◌&&◌}
use Rattle.std.specs.List.{AllByRecursion, cons_option}
use Rattle.std.specs.Option.{option_map, option_or}
use Rattle.std.proofs.lemmas.Bool.{cases_eq, cases_lt, eqb-true}
use Rattle.lam_syntax.specs.Trees.{CommandTree}
use Rattle.lam_token.specs.declared.kind.Kind.{Kind}
use Rattle.lam_token.specs.declared.span.Span.{Span}
use Rattle.lam_token.specs.Edits.{is_span}
use Rattle.lam_scope.specs.Tables.{TextBinder, TextUse, table, binder_in, binder_numbered, binder_at, binder_token_at, binder_used_at, has_name, is_number, is_use_of, use_tokens}
use Rattle.lam_scope.specs.Mentions.{Mention, binds_at, uses_at, labels_at, token_of, kind_of, binder_of, mentions, bound_at, use_bound_to, uses_of, Ascend}
use Rattle.lam_scope.specs.Renames.{kind_bound, answer_for, kind_of_binder, HasName}
use Rattle.lam_scope.proofs.UseChains.{same_number, other_number}
use Rattle.lam_scope.proofs.BinderRows.{Along, BindersStand, all_stand}
use Rattle.lam_scope.proofs.SpelledMentions.{ascend_from_lower}
use Rattle.lam_scope.proofs.MentionRows.{is_answer, IsAnswer, Told, KindTold, UseTold, uses_in, bindings_in, binding_of, answer_bindings, if_or, told_or, table_mentioned}

-- what is told

token_told : (bs : List TextBinder) (a : Option ℕ) (b : Option Span) → Told bs a b → option_map (λ n. (binder_in bs n).token) a ≡ b
token_told bs None None h = refl
token_told bs (Some n) (Some s) h = ap Some h.0
token_told bs None (Some s) h = absurd h
token_told bs (Some n) None h = absurd h

told_here : (bs : List TextBinder) (b : Bool) (a c : Option ℕ) (d e : Option Span) → Told bs a d → Told bs c e → Told bs (if b then a else c) (if b then d else e)
told_here bs true a c d e g h = g
told_here bs false a c d e g h = h

use_told : (bs : List TextBinder) (o : ℕ) (us : List TextUse) (ms : List Mention) → Along (UseTold bs) us ms → Told bs (binder_used_at o us) (bound_at o ms)
use_told bs o [] [] h = tt
use_told bs o (u ∷ us) (uses_at k s b ∷ ms) h =
    subst (λ r. Told bs (binder_used_at o (u ∷ us)) (if r.start == o then b else bound_at o ms)) h.0.0
    (told_here bs (u.token.start == o) u.binder (binder_used_at o us) b (bound_at o ms) h.0.1 (use_told bs o us ms h.1))
use_told bs o (u ∷ us) (m ∷ ms) h = absurd h.0
use_told bs o [] (m ∷ ms) h = absurd h
use_told bs o (u ∷ us) [] h = absurd h

-- what is bound at a byte: the binder that begins there, or that of the use

none_bound : (low high o : ℕ) (ms : List Mention) → Ascend low ms high → o < low → bound_at o ms ≡ None
none_bound low high o [] ascend lt = refl
none_bound low high o (m ∷ ms) ascend lt =
    let first = ascend.0 in
    let some = ascend.1 in
    ap (λ b. if b then binder_of m else bound_at o ms) (other_number (token_of m).start o (λ e. absurd (omega arith))) ∙ none_bound (token_of m).end high o ms ascend.2 (omega arith)

bindings_ascend : (low high : ℕ) (ms : List Mention) → Ascend low ms high → Ascend low (bindings_in ms) high
bindings_ascend low high [] ascend = ascend
bindings_ascend low high (binds_at k s ∷ ms) ascend = (ascend.0, ascend.1, bindings_ascend s.end high ms ascend.2)
bindings_ascend low high (m ∷ ms) ascend =
    let first = ascend.0 in
    let some = ascend.1 in
    ascend_from_lower low (token_of m).end high (bindings_in ms) (omega arith) (bindings_ascend (token_of m).end high ms ascend.2)

bound_parts : (low high o : ℕ) (ms : List Mention) → Ascend low ms high → option_or (bound_at o (bindings_in ms)) (bound_at o (uses_in ms)) ≡ bound_at o ms
bound_parts low high o [] ascend = refl
bound_parts low high o (binds_at k s ∷ ms) ascend =
    sym (if_or (s.start == o) s (bound_at o (bindings_in ms)) (bound_at o (uses_in ms))) ∙ ap (λ b. if s.start == o then Some s else b) (bound_parts s.end high o ms ascend.2)
bound_parts low high o (uses_at k s b ∷ ms) ascend = by (cases_eq s.start o) (bound_parts s.end high o ms ascend.2)
  where
    by : (s.start ≡ o) ⊎ (s.start ≢ o) → option_or (bound_at o (bindings_in ms)) (bound_at o (uses_in ms)) ≡ bound_at o ms
        → option_or (bound_at o (bindings_in ms)) (if s.start == o then b else bound_at o (uses_in ms)) ≡ (if s.start == o then b else bound_at o ms)
    by (inl e) rest =
        let some = ascend.1 in
        let here = same_number s.start o e in
        (λ i. option_or (none_bound s.end high o (bindings_in ms) (bindings_ascend s.end high ms ascend.2) (omega arith) i) (if here i then b else bound_at o (uses_in ms)))
        ∙ sym (ap (λ c. if c then b else bound_at o ms) here)
    by (inr off) rest =
        let away = other_number s.start o off in
        ap (λ c. option_or (bound_at o (bindings_in ms)) (if c then b else bound_at o (uses_in ms))) away ∙ rest ∙ sym (ap (λ c. if c then b else bound_at o ms) away)
bound_parts low high o (labels_at s ∷ ms) ascend = bound_parts s.end high o ms ascend.2 ∙ by (cases_eq s.start o)
  where
    by : (s.start ≡ o) ⊎ (s.start ≢ o) → bound_at o ms ≡ (if s.start == o then None else bound_at o ms)
    by (inl e) = let some = ascend.1 in none_bound s.end high o ms ascend.2 (omega arith) ∙ sym (ap (λ c. if c then None else bound_at o ms) (same_number s.start o e))
    by (inr off) = sym (ap (λ c. if c then None else bound_at o ms) (other_number s.start o off))

-- what a table tells, wherever the mentions stand
each_told : (cs : List CommandTree) (o : ℕ) → Told (table cs).binders (binder_at (table cs) o) (option_or (bound_at o (bindings_in (mentions cs))) (bound_at o (uses_in (mentions cs))))
each_told cs o =
    let bs = (table cs).binders in
    let us = (table cs).uses in
    let ms = mentions cs in
    let told = table_mentioned cs in
    told_or bs (binder_token_at o bs) (binder_used_at o us) (bound_at o (bindings_in ms)) (bound_at o (uses_in ms)) (told.at o) (use_told bs o us (uses_in ms) told.uses)

pub all_told : (cs : List CommandTree) (high o : ℕ) → Ascend 0 (mentions cs) high → Told (table cs).binders (binder_at (table cs) o) (bound_at o (mentions cs))
all_told cs high o ascend = subst (Told (table cs).binders (binder_at (table cs) o)) (bound_parts 0 high o (mentions cs) ascend) (each_told cs o)

pub bound_told : (cs : List CommandTree) (high o : ℕ) → Ascend 0 (mentions cs) high → option_map (λ n. (binder_numbered (table cs) n).token) (binder_at (table cs) o) ≡ bound_at o (mentions cs)
bound_told cs high o ascend = token_told (table cs).binders (binder_at (table cs) o) (bound_at o (mentions cs)) (all_told cs high o ascend)

-- what a name is bound to is itself the answer for it, and has a name

answer_told : (bs : List TextBinder) (n : ℕ) (a : Option ℕ) (b : Option Span) → Told bs a b → a ≡ Some n → IsAnswer bs n
answer_told bs n None b h is = absurd cc
answer_told bs n (Some m) None h is = absurd h
answer_told bs n (Some m) (Some s) h is = let same : m ≡ n = cc in subst (IsAnswer bs) same h.1

pub is_answer_at : (cs : List CommandTree) (o n : ℕ) → binder_at (table cs) o ≡ Some n → IsAnswer (table cs).binders n
is_answer_at cs o n is = answer_told (table cs).binders n (binder_at (table cs) o) _ (each_told cs o) is

own_number : (n a : ℕ) (named : Bool) → (if named then a == n else false) ≡ true → (named ≡ true) × (a ≡ n)
own_number n a true is = (refl, eqb-true a n is)
own_number n a false is = absurd cc

pub own_answer : (cs : List CommandTree) (o n : ℕ) → binder_at (table cs) o ≡ Some n → HasName cs n × (answer_for cs n ≡ n)
own_answer cs o n is =
    let answer = is_answer_at cs o n is in
    let own = own_number n (answer_for cs n) (has_name (binder_numbered (table cs) n).name) answer.1 in
    (record { inside = answer.0; named = own.0 }, own.1)

-- no two answers have the same token

ascend_rest : (b : Bool) (low high : ℕ) (m : Mention) (ms : List Mention) → Ascend low (if b then m ∷ ms else ms) high → Ascend low ms high
ascend_rest true low high m ms h =
    let first = h.0 in
    let some = h.1 in
    ascend_from_lower low (token_of m).end high ms (omega arith) h.2
ascend_rest false low high m ms h = h

ascend_first : (b : Bool) (low high : ℕ) (m : Mention) (ms : List Mention) → b ≡ true → Ascend low (if b then m ∷ ms else ms) high → Ascend low (m ∷ ms) high
ascend_first true low high m ms e h = h
ascend_first false low high m ms e h = absurd cc

-- the rows that are left, of which the first has index n
abbrev AreLast : List TextBinder → ℕ → List TextBinder → Type 0
AreLast bs n rows = BindersStand bs n rows × (n + length rows ≡ length bs)

own_ascends : (bs : List TextBinder) (n low high k : ℕ) (b : TextBinder) (rows : List TextBinder) → AreLast bs n (b ∷ rows) → Ascend low (answer_bindings n (b ∷ rows)) high → IsAnswer bs k → k ≡ n
    → ((binder_in bs k).token ≡ b.token) × Ascend low (binding_of b ∷ answer_bindings (n + 1) rows) high
own_ascends bs n low high k b rows last ascend answer e =
    let row : binder_in bs k ≡ b = ap (binder_in bs) e ∙ last.0.1 in
    (ap (λ c. c.token) row, ascend_first (is_answer n b) low high (binding_of b) (answer_bindings (n + 1) rows) ((λ i. is_answer (sym e i) (sym row i)) ∙ answer.1) ascend)

starts_behind : (bs : List TextBinder) (n low high k : ℕ) (rows : List TextBinder) → AreLast bs n rows → Ascend low (answer_bindings n rows) high → IsAnswer bs k → n ≤ k → low ≤ (binder_in bs k).token.start
starts_behind bs n low high k [] last ascend answer le = let count = last.1 in let within = answer.0 in absurd (omega arith)
starts_behind bs n low high k (b ∷ rows) last ascend answer le =
    by (λ lt. starts_behind bs (n + 1) low high k rows (last.0.2, omega arith) (ascend_rest (is_answer n b) low high (binding_of b) (answer_bindings (n + 1) rows) ascend) answer (omega arith)) (cases_eq k n)
  where
    by : (n < k → low ≤ (binder_in bs k).token.start) → (k ≡ n) ⊎ (k ≢ n) → low ≤ (binder_in bs k).token.start
    by more (inl e) =
        let own = own_ascends bs n low high k b rows last ascend answer e in
        subst (λ s. low ≤ s.start) (sym own.0) own.1.0
    by more (inr off) = more (omega arith)

answers_ascend : (bs : List TextBinder) (n low high j k : ℕ) (rows : List TextBinder) → AreLast bs n rows → Ascend low (answer_bindings n rows) high → IsAnswer bs j → IsAnswer bs k → n ≤ j → j < k
    → (binder_in bs j).token.start < (binder_in bs k).token.start
answers_ascend bs n low high j k [] last ascend answer other_answer le lt = let count = last.1 in let within = answer.0 in absurd (omega arith)
answers_ascend bs n low high j k (b ∷ rows) last ascend answer other_answer le lt =
    by (λ more. answers_ascend bs (n + 1) low high j k rows (last.0.2, omega arith) (ascend_rest (is_answer n b) low high (binding_of b) (answer_bindings (n + 1) rows) ascend) answer other_answer (omega arith) lt)
    (cases_eq j n)
  where
    by : (n < j → (binder_in bs j).token.start < (binder_in bs k).token.start) → (j ≡ n) ⊎ (j ≢ n) → (binder_in bs j).token.start < (binder_in bs k).token.start
    by more (inl e) =
        let own = own_ascends bs n low high j b rows last ascend answer e in
        let some = own.1.1 in
        let behind = starts_behind bs (n + 1) b.token.end high k rows (last.0.2, omega arith) own.1.2 other_answer (omega arith) in
        subst (λ s. s.start < (binder_in bs k).token.start) (sym own.0) (omega arith)
    by more (inr off) = more (omega arith)

one_answer : (bs : List TextBinder) (high j k : ℕ) → Ascend 0 (answer_bindings 0 bs) high → IsAnswer bs j → IsAnswer bs k → (binder_in bs j).token.start ≡ (binder_in bs k).token.start → j ≡ k
one_answer bs high j k ascend answer other_answer e = by (cases_lt j k) (cases_lt k j)
  where
    all : AreLast bs 0 bs
    all = (all_stand bs, omega arith)

    by : (j < k) ⊎ (k ≤ j) → (k < j) ⊎ (j ≤ k) → j ≡ k
    by (inl lt) other_case = let less = answers_ascend bs 0 0 high j k bs all ascend answer other_answer (omega arith) lt in absurd (omega arith)
    by (inr le) (inl lt) = let less = answers_ascend bs 0 0 high k j bs all ascend other_answer answer (omega arith) lt in absurd (omega arith)
    by (inr le) (inr more) = omega arith

-- no other answer has the token of this binder
abbrev pub IsAlone : List TextBinder → ℕ → Type 0
IsAlone bs n = (m : ℕ) → IsAnswer bs m → (binder_in bs m).token.start ≡ (binder_in bs n).token.start → m ≡ n

pub alone_at : (cs : List CommandTree) (high o n : ℕ) → Ascend 0 (mentions cs) high → binder_at (table cs) o ≡ Some n → IsAlone (table cs).binders n
alone_at cs high o n ascend is m answer =
    let bs = (table cs).binders in
    let all = subst (λ ms. Ascend 0 ms high) (sym (table_mentioned cs).answers) (bindings_ascend 0 high (mentions cs) ascend) in
    one_answer bs high m n all answer (is_answer_at cs o n is)

-- the uses of a binder

uses_alone : (s : Span) (ms : List Mention) → uses_of s (uses_in ms) ≡ uses_of s ms
uses_alone s [] = refl
uses_alone s (uses_at k t (Some b) ∷ ms) = ap (cons_option (if is_span s b then Some t else None)) (uses_alone s ms)
uses_alone s (m ∷ ms) = uses_alone s ms

pub same_token : (s t : Span) → s ≡ t → is_span s t ≡ true
same_token s t e = (λ i. is_span s (sym e i)) ∙ (λ i. same_number s.start s.start refl i && same_number s.end s.end refl i)

pub other_token : (s t : Span) → s.start ≢ t.start → is_span s t ≡ false
other_token s t off = ap (λ b. b && (s.end == t.end)) (other_number s.start t.start off)

-- whether a binder, if there is one, has this token
abbrev pub is_at : Span → Option Span → Bool
is_at b None = false
is_at b (Some c) = is_span b c

-- whether a binder is this one, by token and by number
pub same_binder : (bs : List TextBinder) (n : ℕ) (a : Option ℕ) (b : Option Span) → IsAlone bs n → Told bs a b → is_at (binder_in bs n).token b ≡ is_number n a
same_binder bs n None None alone h = refl
same_binder bs n (Some m) (Some s) alone h = by (cases_eq m n)
  where
    by : (m ≡ n) ⊎ (m ≢ n) → is_span (binder_in bs n).token s ≡ (m == n)
    by (inl e) = same_token (binder_in bs n).token s (ap (λ j. (binder_in bs j).token) (sym e) ∙ h.0) ∙ sym (same_number m n e)
    by (inr off) = other_token (binder_in bs n).token s (λ e. off (alone m h.1 (ap (λ r. r.start) h.0 ∙ sym e))) ∙ sym (other_number m n off)
same_binder bs n None (Some s) alone h = absurd h
same_binder bs n (Some m) None alone h = absurd h

-- the token of a use is listed for this binder exactly if the use is bound to it
pub use_is : (b : Span) (k : Kind) (t : Span) (c : Option Span) → use_bound_to b (uses_at k t c) ≡ (if is_at b c then Some t else None)
use_is b k t None = refl
use_is b k t (Some c) = refl

taken : (b : Bool) (u : TextUse) (us : List TextUse) (t : Span) (ts : List Span) → u.token ≡ t → map (λ v. v.token) us ≡ ts
    → map (λ v. v.token) (if b then u ∷ us else us) ≡ cons_option (if b then Some t else None) ts
taken true u us t ts e rest = λ i. e i ∷ rest i
taken false u us t ts e rest = rest

tokens_told : (bs : List TextBinder) (n : ℕ) (us : List TextUse) (ms : List Mention) → IsAlone bs n → Along (UseTold bs) us ms → use_tokens n us ≡ uses_of (binder_in bs n).token ms
tokens_told bs n [] [] alone h = refl
tokens_told bs n (u ∷ us) (uses_at k s b ∷ ms) alone h =
    taken (is_number n u.binder) u (filter (is_use_of n) us) s (uses_of (binder_in bs n).token ms) h.0.0 (tokens_told bs n us ms alone h.1)
    ∙ sym (ap (λ o. cons_option o (uses_of (binder_in bs n).token ms)) (use_is (binder_in bs n).token k s b ∙ ap (λ c. if c then Some s else None) (same_binder bs n u.binder b alone h.0.1)))
tokens_told bs n (u ∷ us) (m ∷ ms) alone h = absurd h.0
tokens_told bs n [] (m ∷ ms) alone h = absurd h
tokens_told bs n (u ∷ us) [] alone h = absurd h

pub uses_told : (cs : List CommandTree) (high o n : ℕ) → Ascend 0 (mentions cs) high → binder_at (table cs) o ≡ Some n → use_tokens n (table cs).uses ≡ uses_of (binder_numbered (table cs) n).token (mentions cs)
uses_told cs high o n ascend is =
    let bs = (table cs).binders in
    let ms = mentions cs in
    tokens_told bs n (table cs).uses (uses_in ms) (alone_at cs high o n ascend is) (table_mentioned cs).uses ∙ uses_alone (binder_in bs n).token ms

-- the kind of what is bound to a binder

-- a mention that is this binder or uses it is of its kind
abbrev IsOfKind : List TextBinder → ℕ → Mention → Type 0
IsOfKind bs n m = binder_of m ≡ Some (binder_in bs n).token → kind_of m ≡ kind_bound (binder_in bs n).origin

all_taken : (P : Mention → Type 0) (b : Bool) (m : Mention) (ms : List Mention) → (b ≡ true → P m) → AllByRecursion P ms → AllByRecursion P (if b then m ∷ ms else ms)
all_taken P true m ms g h = (g refl, h)
all_taken P false m ms g h = h

bindings_of_kind : (bs : List TextBinder) (n m : ℕ) (rows : List TextBinder) → IsAlone bs n → BindersStand bs m rows → AllByRecursion (IsOfKind bs n) (answer_bindings m rows)
bindings_of_kind bs n m [] alone stand = tt
bindings_of_kind bs n m (b ∷ rows) alone stand =
    all_taken (IsOfKind bs n) (is_answer m b) (binding_of b) (answer_bindings (m + 1) rows)
    (λ answers is.
    let token : b.token ≡ (binder_in bs n).token = cc in
    let same = alone m (stand.0, ap (is_answer m) stand.1 ∙ answers) (ap (λ c. c.token.start) stand.1 ∙ ap (λ s. s.start) token) in
    ap (λ c. kind_bound c.origin) (sym stand.1 ∙ ap (binder_in bs) same))
    (bindings_of_kind bs n (m + 1) rows alone stand.2)

use_of_kind : (bs : List TextBinder) (n : ℕ) (k : Kind) (a : Option ℕ) (b : Option Span) → IsAlone bs n → Told bs a b → KindTold bs k a → b ≡ Some (binder_in bs n).token
    → k ≡ kind_bound (binder_in bs n).origin
use_of_kind bs n k None None alone h g is = absurd cc
use_of_kind bs n k (Some m) (Some s) alone h g is =
    let token : s ≡ (binder_in bs n).token = cc in
    sym g ∙ ap (λ j. kind_bound (binder_in bs j).origin) (alone m h.1 (ap (λ r. r.start) (h.0 ∙ token)))
use_of_kind bs n k None (Some s) alone h g is = absurd h
use_of_kind bs n k (Some m) None alone h g is = absurd h

uses_of_kind : (bs : List TextBinder) (n : ℕ) (us : List TextUse) (ms : List Mention) → IsAlone bs n → Along (UseTold bs) us ms → AllByRecursion (IsOfKind bs n) ms
uses_of_kind bs n [] [] alone h = tt
uses_of_kind bs n (u ∷ us) (uses_at k s b ∷ ms) alone h = (use_of_kind bs n k u.binder b alone h.0.1 h.0.2, uses_of_kind bs n us ms alone h.1)
uses_of_kind bs n (u ∷ us) (m ∷ ms) alone h = absurd h.0
uses_of_kind bs n [] (m ∷ ms) alone h = absurd h
uses_of_kind bs n (u ∷ us) [] alone h = absurd h

all_parts : (P : Mention → Type 0) (ms : List Mention) → ((s : Span) → P (labels_at s)) → AllByRecursion P (bindings_in ms) → AllByRecursion P (uses_in ms) → AllByRecursion P ms
all_parts P [] labels bindings uses = tt
all_parts P (binds_at k s ∷ ms) labels bindings uses = (bindings.0, all_parts P ms labels bindings.1 uses)
all_parts P (uses_at k s b ∷ ms) labels bindings uses = (uses.0, all_parts P ms labels bindings uses.1)
all_parts P (labels_at s ∷ ms) labels bindings uses = (labels s, all_parts P ms labels bindings uses)

pub kinds_told : (cs : List CommandTree) (high o n : ℕ) → Ascend 0 (mentions cs) high → binder_at (table cs) o ≡ Some n
    → AllByRecursion (λ m. binder_of m ≡ Some (binder_numbered (table cs) n).token → kind_of m ≡ kind_of_binder cs n) (mentions cs)
kinds_told cs high o n ascend is =
    let bs = (table cs).binders in
    let ms = mentions cs in
    let told = table_mentioned cs in
    let alone = alone_at cs high o n ascend is in
    all_parts (IsOfKind bs n) ms (λ s none. absurd cc) (subst (AllByRecursion (IsOfKind bs n)) told.answers (bindings_of_kind bs n 0 bs alone (all_stand bs)))
    (uses_of_kind bs n (table cs).uses (uses_in ms) alone told.uses)

-- what some name is bound to is mentioned, so what holds of all mentions holds of that one

all_bindings : (P : Mention → Type 0) (ms : List Mention) → AllByRecursion P ms → AllByRecursion P (bindings_in ms)
all_bindings P [] h = tt
all_bindings P (binds_at k s ∷ ms) h = (h.0, all_bindings P ms h.1)
all_bindings P (m ∷ ms) h = all_bindings P ms h.1

all_first : (P : Mention → Type 0) (b : Bool) (m : Mention) (ms : List Mention) → b ≡ true → AllByRecursion P (if b then m ∷ ms else ms) → P m
all_first P true m ms is h = h.0
all_first P false m ms is h = absurd cc

all_rest : (P : Mention → Type 0) (b : Bool) (m : Mention) (ms : List Mention) → AllByRecursion P (if b then m ∷ ms else ms) → AllByRecursion P ms
all_rest P true m ms h = h.1
all_rest P false m ms h = h

pub answer_holds : (P : Mention → Type 0) (bs : List TextBinder) (n k : ℕ) (rows : List TextBinder) → AreLast bs n rows → IsAnswer bs k → n ≤ k → AllByRecursion P (answer_bindings n rows)
    → P (binding_of (binder_in bs k))
answer_holds P bs n k [] last answer le h = let count = last.1 in let within = answer.0 in absurd (omega arith)
answer_holds P bs n k (b ∷ rows) last answer le h =
    by (λ lt. answer_holds P bs (n + 1) k rows (last.0.2, omega arith) answer (omega arith) (all_rest P (is_answer n b) (binding_of b) (answer_bindings (n + 1) rows) h)) (cases_eq k n)
  where
    by : (n < k → P (binding_of (binder_in bs k))) → (k ≡ n) ⊎ (k ≢ n) → P (binding_of (binder_in bs k))
    by more (inl e) =
        let row : binder_in bs k ≡ b = ap (binder_in bs) e ∙ last.0.1 in
        subst (λ c. P (binding_of c)) (sym row) (all_first P (is_answer n b) (binding_of b) (answer_bindings (n + 1) rows) ((λ i. is_answer (sym e i) (sym row i)) ∙ answer.1) h)
    by more (inr off) = more (omega arith)

told_holds : (P : Mention → Type 0) (bs : List TextBinder) (a : Option ℕ) (b : Span) → Told bs a (Some b) → AllByRecursion P (answer_bindings 0 bs) → (k : Kind) × P (binds_at k b)
told_holds P bs None b told h = absurd told
told_holds P bs (Some n) b told h = (kind_bound (binder_in bs n).origin, subst (λ s. P (binds_at (kind_bound (binder_in bs n).origin) s)) told.0 (answer_holds P bs 0 n bs (all_stand bs, omega arith) told.1 (omega arith) h))

pub binder_holds : (P : Mention → Type 0) (cs : List CommandTree) (high o : ℕ) (b : Span) → Ascend 0 (mentions cs) high → bound_at o (mentions cs) ≡ Some b → AllByRecursion P (mentions cs)
    → (k : Kind) × P (binds_at k b)
binder_holds P cs high o b ascend is h =
    let bs = (table cs).binders in
    told_holds P bs (binder_at (table cs) o) b (subst (Told bs (binder_at (table cs) o)) is (all_told cs high o ascend))
    (subst (AllByRecursion P) (sym (table_mentioned cs).answers) (all_bindings P (mentions cs) h))
