-- What follows a segment affects it by its first character alone, and there any name is like any other.
use Rattle.std.proofs.Common.{◌≡◌, ℕ, ◌<◌, Bool, true, false, cond, Option, Some, None, List, [], ◌∷◌, ◌++◌, length, ◌⊎◌, inl, inr, ⊎_elim, sym, refl, ap, ◌∙◌, subst, append_assoc, arith, length-append}
use Rattle.std.specs.Prelude.{◌==◌, encode_utf8_all}
use Rattle.std.specs.List.{list_all}
use Rattle.std.proofs.lemmas.List.Folds.{list_all-append}
use Rattle.std.proofs.lemmas.Bool.{ne_eqb, or_right}
use Rattle.unicode_ident.specs.Ident.{is_xid_start, is_xid_continue}
use Rattle.unicode_ident.proofs.IdentLemmas.{is_xid_start-ascii, is_xid_continue-ascii, is_xid_start-is_xid_continue}
use Rattle.lam_token.specs.declared.kind.Kind.{Kind}
use Rattle.lam_token.specs.declared.kind.Kind.TheVariants.{Numeral, Arrow, BadCharacter}
use Rattle.lam_token.specs.declared.segment.Segment.{Segment}
use Rattle.lam_token.specs.declared.segment.Segment.TheVariants.{Blank, Comment, Token}
use Rattle.lam_token.specs.declared.segment.Beginning.{Beginning}
use Rattle.lam_token.specs.declared.segment.Beginning.TheVariants as begin
use Rattle.lam_token.specs.Shape.{is_blank, is_digit, is_continuing, mark_of, beginning_of, rest_of_comment, alone, closed_at_end, begun, shape_of, opened}
use Rattle.lam_token.specs.Words.{word_kind}
use Rattle.lam_token.specs.Cut.{NothingLonger, IsFirst, longest, unclosed, stray}
use Rattle.lam_token.specs.Edits.{IsNameKind}
use Rattle.lam_token.specs.inner.Reading.{EndsRun}
use Rattle.lam_token.proofs.Shapes.{longer_fails, not_alone, longer_comment, same_choices}
use Rattle.lam_token.proofs.Segments.{longer_underscore, begun_slash, nothing_begins}

-- ---- what a name begins with

-- what a beginning tells of its character, or of the kind of its mark
abbrev Tells : ℕ → Beginning → Type 0
Tells c begin.Letter = (is_digit c ≡ false) × (is_xid_start c ≡ true)
Tells c begin.Underscore = c ≡ 95
Tells c (begin.Mark kind) = IsNameKind kind → ⊥
Tells c _ = Unit {0}

mark_tells : (c : ℕ) → Tells c (mark_of c)
unfolding mark_of
mark_tells c = grind arith

beginning_tells : (c : ℕ) → Tells c (beginning_of c)
unfolding beginning_of
beginning_tells c = by_tests (is_blank c) (is_digit c) (is_xid_start c) refl refl
  where
    by_tests : (blank digit letter : Bool) → is_digit c ≡ digit → is_xid_start c ≡ letter → Tells c (cond blank begin.Blank (cond digit begin.Digit (cond letter begin.Letter (mark_of c))))
    by_tests true digit letter d l = tt
    by_tests false true letter d l = tt
    by_tests false false true d l = (d, l)
    by_tests false false false d l = mark_tells c

-- a name begins with a letter or an underscore
abbrev pub MayBeginName : Beginning → Type 0
MayBeginName b = (b ≡ begin.Letter) ⊎ (b ≡ begin.Underscore)

abbrev pub BeginsName : ℕ → Type 0
BeginsName c = MayBeginName (beginning_of c)

-- what begins a name is no digit, and it also continues one
pub begins_tells : (c : ℕ) → BeginsName c → (is_digit c ≡ false) × (is_continuing c ≡ true)
unfolding is_digit is_continuing
begins_tells c begins =
    ⊎_elim
    (λ (letter : beginning_of c ≡ begin.Letter).
    let told = subst (Tells c) letter (beginning_tells c) in
    (told.0, or_right (c == 39) (is_xid_continue c) (is_xid_start-is_xid_continue c told.1)))
    (λ (underscore : beginning_of c ≡ begin.Underscore).
    let told : c ≡ 95 = subst (Tells c) underscore (beginning_tells c) in
    subst (λ n. (is_digit n ≡ false) × (is_continuing n ≡ true)) (sym told) (refl, is_xid_continue-ascii 95 (omega arith)))
    begins

-- a star and a `>` begin nothing
star_begins : beginning_of 42 ≡ begin.Stray
unfolding beginning_of is_blank is_digit mark_of
star_begins = ap (λ b. cond b begin.Letter begin.Stray) (is_xid_start-ascii 42 (omega arith))

greater_begins : beginning_of 62 ≡ begin.Stray
unfolding beginning_of is_blank is_digit mark_of
greater_begins = ap (λ b. cond b begin.Letter begin.Stray) (is_xid_start-ascii 62 (omega arith))

-- what begins a name is no character that begins nothing
other_character : (c d : ℕ) → beginning_of d ≡ begin.Stray → BeginsName c → (c == d) ≡ false
other_character c d strays begins =
    ne_eqb c d (λ same. let found = ap beginning_of same in ⊎_elim (λ letter. absurd cc) (λ underscore. absurd cc) begins)

-- ---- what has a shape

alone_is : (s t : Segment) (cs : List ℕ) → alone s cs ≡ Some t → (cs ≡ []) × (s ≡ t)
alone_is s t [] e = (refl, cc)
alone_is s t (c ∷ cs) e = absurd cc

pub chosen_is : (b : Bool) (o : Option Segment) (t : Segment) → cond b o None ≡ Some t → (b ≡ true) × (o ≡ Some t)
chosen_is true o t e = (refl, e)
chosen_is false o t e = absurd cc

closed_is : (left : Option (List ℕ)) (t : Segment) → closed_at_end left ≡ Some t → (left ≡ Some []) × (Comment ≡ t)
closed_is None t e = absurd cc
closed_is (Some cs) t e =
    let found = alone_is Comment t cs e in
    (ap (λ (l : List ℕ). Some l) found.0, found.1)

-- ---- the letters of a name

other_kind : (k kind : Kind) → (IsNameKind k → ⊥) → IsNameKind kind → Token k ≡ Token kind → ⊥
other_kind k kind other is same = let found : kind ≡ k = cc in other (subst IsNameKind found is)

begins_by : (b : Beginning) (c : ℕ) (cs : List ℕ) (kind : Kind) → IsNameKind kind → Tells c b → begun b c cs ≡ Some (Token kind) → MayBeginName b
begins_by begin.Blank c cs kind is told shape = let found = alone_is Blank (Token kind) cs shape in absurd cc
begins_by begin.Slash c [] kind is told shape = absurd cc
begins_by begin.Slash c (d ∷ cs) kind is told shape =
    let found = closed_is _ (Token kind) (chosen_is (d == 42) _ (Token kind) shape).1 in absurd cc
begins_by begin.Digit c cs kind is told shape =
    let found = chosen_is (list_all is_digit cs) _ (Token kind) shape in
    absurd (other_kind Numeral kind (λ n. ⊎_elim (λ e. cc) (λ e. cc) n) is cc)
begins_by begin.Letter c cs kind is told shape = inl refl
begins_by begin.Underscore c cs kind is told shape = inr refl
begins_by begin.Dash c [] kind is told shape = absurd cc
begins_by begin.Dash c (d ∷ cs) kind is told shape =
    let found = alone_is (Token Arrow) (Token kind) cs (chosen_is (d == 62) _ (Token kind) shape).1 in
    absurd (other_kind Arrow kind (λ n. ⊎_elim (λ e. cc) (λ e. cc) n) is found.1)
begins_by (begin.Mark k) c cs kind is told shape = absurd (other_kind k kind told is (alone_is (Token k) (Token kind) cs shape).1)
begins_by begin.Stray c cs kind is told shape = absurd cc

pub name_begins : (c : ℕ) (cs : List ℕ) (kind : Kind) → IsNameKind kind → shape_of (c ∷ cs) ≡ Some (Token kind) → BeginsName c
name_begins c cs kind is shape = begins_by (beginning_of c) c cs kind is (beginning_tells c) shape

-- ---- what a segment goes on with

-- the characters that would make a segment longer, by what begins it
abbrev pub goes_on : Beginning → ℕ → Bool
goes_on begin.Digit = is_digit
goes_on begin.Letter = is_continuing
goes_on begin.Underscore = is_continuing
goes_on _ = λ c. false

-- a run that ends fails with one character more
run_fails : (passes : ℕ → Bool) (cs : List ℕ) (x : ℕ) → list_all passes cs ≡ true → list_all passes (cs ++ x ∷ []) ≡ false → passes x ≡ false
run_fails passes cs x all fails = let parts = list_all-append passes cs (x ∷ []) in grind arith

not_chosen : (b : Bool) (s : Segment) → cond b (Some s) None ≡ None → b ≡ false
not_chosen true s e = absurd cc
not_chosen false s e = refl

next_fails : (b : Beginning) (c x : ℕ) (cs : List ℕ) (s : Segment) → begun b c cs ≡ Some s → begun b c (cs ++ x ∷ []) ≡ None → goes_on b x ≡ false
next_fails begin.Digit c x cs s is none =
    run_fails is_digit cs x (chosen_is (list_all is_digit cs) _ s is).0 (not_chosen (list_all is_digit (cs ++ x ∷ [])) _ none)
next_fails begin.Letter c x cs s is none =
    run_fails is_continuing cs x (chosen_is (list_all is_continuing cs) _ s is).0 (not_chosen (list_all is_continuing (cs ++ x ∷ [])) _ none)
next_fails begin.Underscore c x [] s is none = run_fails is_continuing [] x refl (not_chosen (list_all is_continuing (x ∷ [])) _ none)
next_fails begin.Underscore c x (d ∷ cs) s is none =
    run_fails is_continuing (d ∷ cs) x (chosen_is (list_all is_continuing (d ∷ cs)) _ s is).0 (not_chosen (list_all is_continuing (d ∷ cs ++ x ∷ [])) _ none)
next_fails _ c x cs s is none = refl

ends : (c : ℕ) (cs rest : List ℕ) (s : Segment) → shape_of (c ∷ cs) ≡ Some s → NothingLonger (c ∷ cs ++ rest) (c ∷ cs) → EndsRun (goes_on (beginning_of c)) rest
ends c cs [] s is none = tt
ends c cs (x ∷ rest) s is none =
    next_fails (beginning_of c) c x cs s is (none (c ∷ cs ++ x ∷ []) rest (sym (append_assoc (c ∷ cs) (x ∷ []) rest)) (omega (arith, length-append cs (x ∷ []))))

-- and if no such character comes next, the segment is the longest
longer_none : (b : Beginning) (c : ℕ) (cs rest front after : List ℕ) (s : Segment) → begun b c cs ≡ Some s → EndsRun (goes_on b) rest → cs ++ rest ≡ front ++ after → length cs < length front → begun b c front ≡ None
longer_none begin.Blank c cs rest front after s is stop same longer = not_alone Blank front (omega arith)
longer_none begin.Slash c [] rest front after s is stop same longer = absurd cc
longer_none begin.Slash c (d ∷ cs) rest front after s is stop same longer =
    let star = chosen_is (d == 42) _ s is in
    begun_slash c d (cs ++ rest) front after same
    (λ inside f_is tail. ap (λ b. cond b (closed_at_end (rest_of_comment 1 32 inside)) None) star.0
    ∙ longer_comment cs rest inside after (closed_is _ s star.1).0 tail (omega (arith, ap length f_is)))
longer_none begin.Digit c cs rest front after s is stop same longer =
    ap (λ b. cond b (Some (Token Numeral)) None) (longer_fails is_digit cs rest front after stop same longer)
longer_none begin.Letter c cs rest front after s is stop same longer =
    ap (λ b. cond b (Some (Token (word_kind c (encode_utf8_all (c ∷ front))))) None) (longer_fails is_continuing cs rest front after stop same longer)
longer_none begin.Underscore c cs rest front after s is stop same longer = longer_underscore c cs rest front after stop same longer
longer_none begin.Dash c [] rest front after s is stop same longer = absurd cc
longer_none begin.Dash c (d ∷ cs) rest [] after s is stop same longer = absurd (omega arith)
longer_none begin.Dash c (d ∷ cs) rest (x ∷ []) after s is stop same longer = absurd (omega arith)
longer_none begin.Dash c (d ∷ cs) rest (x ∷ y ∷ front) after s is stop same longer = same_choices (x == 62) None
longer_none (begin.Mark k) c cs rest front after s is stop same longer = not_alone (Token k) front (omega arith)
longer_none begin.Stray c cs rest front after s is stop same longer = absurd cc

pub stays_longest : (c : ℕ) (cs rest : List ℕ) (s : Segment) → shape_of (c ∷ cs) ≡ Some s → EndsRun (goes_on (beginning_of c)) rest → NothingLonger (c ∷ cs ++ rest) (c ∷ cs)
stays_longest c cs rest s is stop [] after same longer = absurd (omega arith)
stays_longest c cs rest s is stop (d ∷ front) after same longer =
    let head : d ≡ c = cc in
    let tail : cs ++ rest ≡ front ++ after = cc in
    ap (λ x. shape_of (x ∷ front)) head ∙ longer_none (beginning_of c) c cs rest front after s is stop tail (omega arith)

-- what would make a segment of a stray character, if it came next
abbrev makes : Beginning → ℕ → Bool
makes begin.Slash = λ d. d == 42
makes begin.Dash = λ d. d == 62
makes _ = λ d. false

stray_ends : (b : Beginning) (c : ℕ) (rest : List ℕ) → ((front after : List ℕ) → rest ≡ front ++ after → begun b c front ≡ None) → opened b rest ≡ false → EndsRun (makes b) rest
stray_ends b c [] none not_opened = tt
stray_ends begin.Slash c (d ∷ rest) none not_opened = not_opened
stray_ends begin.Dash c (d ∷ rest) none not_opened = not_chosen (d == 62) (Token Arrow) (none (d ∷ []) rest refl)
stray_ends _ c (d ∷ rest) none not_opened = refl

stray_none : (b : Beginning) (c : ℕ) (rest front after : List ℕ) → begun b c [] ≡ None → EndsRun (makes b) rest → rest ≡ front ++ after → begun b c front ≡ None
stray_none b c rest [] after none stop same = none
stray_none begin.Slash c [] (e ∷ front) after none stop same = absurd cc
stray_none begin.Slash c (d ∷ rest) (e ∷ front) after none stop same =
    let head : e ≡ d = cc in
    ap (λ x. cond (x == 42) (closed_at_end (rest_of_comment 1 32 front)) None) head
    ∙ ap (λ b. cond b (closed_at_end (rest_of_comment 1 32 front)) None) stop
stray_none begin.Dash c [] (e ∷ front) after none stop same = absurd cc
stray_none begin.Dash c (d ∷ rest) (e ∷ front) after none stop same =
    let head : e ≡ d = cc in
    ap (λ x. cond (x == 62) (alone (Token Arrow) front) None) head ∙ ap (λ b. cond b (alone (Token Arrow) front) None) stop
stray_none begin.Stray c rest (e ∷ front) after none stop same = refl
stray_none _ c rest (e ∷ front) after none stop same = absurd cc

stray_opens : (b : Beginning) (rest : List ℕ) → EndsRun (makes b) rest → opened b rest ≡ false
stray_opens begin.Slash [] stop = refl
stray_opens begin.Slash (d ∷ rest) stop = stop
stray_opens _ rest stop = refl

stays_stray : (c : ℕ) (rest : List ℕ) → shape_of (c ∷ []) ≡ None → EndsRun (makes (beginning_of c)) rest → IsFirst (Token BadCharacter) (c ∷ []) rest
stays_stray c rest none stop =
    stray
    (nothing_begins c rest (beginning_of c) refl (λ front after same. stray_none (beginning_of c) c rest front after none stop same))
    (stray_opens (beginning_of c) rest stop) refl

-- ---- any name that comes next is like any other

-- texts that begin with the same character, or each with a name
abbrev pub StartsAlike : List ℕ → List ℕ → Type 0
StartsAlike [] [] = Unit {0}
StartsAlike [] (d ∷ ds) = ⊥
StartsAlike (c ∷ cs) [] = ⊥
StartsAlike (c ∷ cs) (d ∷ ds) = (c ≡ d) ⊎ (BeginsName c × BeginsName d)

-- a test that does not tell the beginning of one name from that of another
abbrev IsBlind : (ℕ → Bool) → Type 0
IsBlind test = (c d : ℕ) → BeginsName c → BeginsName d → test c ≡ test d

goes_on-IsBlind : (b : Beginning) → IsBlind (goes_on b)
goes_on-IsBlind begin.Digit c d name other = (begins_tells c name).0 ∙ sym (begins_tells d other).0
goes_on-IsBlind begin.Letter c d name other = (begins_tells c name).1 ∙ sym (begins_tells d other).1
goes_on-IsBlind begin.Underscore c d name other = (begins_tells c name).1 ∙ sym (begins_tells d other).1
goes_on-IsBlind _ c d name other = refl

makes-IsBlind : (b : Beginning) → IsBlind (makes b)
makes-IsBlind begin.Slash c d name other = other_character c 42 star_begins name ∙ sym (other_character d 42 star_begins other)
makes-IsBlind begin.Dash c d name other = other_character c 62 greater_begins name ∙ sym (other_character d 62 greater_begins other)
makes-IsBlind _ c d name other = refl

ends_alike : (test : ℕ → Bool) (cs ds : List ℕ) → IsBlind test → StartsAlike cs ds → EndsRun test cs → EndsRun test ds
ends_alike test [] [] blind alike stop = tt
ends_alike test [] (d ∷ ds) blind alike stop = absurd alike
ends_alike test (c ∷ cs) [] blind alike stop = tt
ends_alike test (c ∷ cs) (d ∷ ds) blind alike stop =
    ⊎_elim
    (λ (same : c ≡ d). ap test (sym same) ∙ stop)
    (λ (names : BeginsName c × BeginsName d). blind d c names.1 names.0 ∙ stop)
    alike

-- a segment stays the first where what follows it starts alike
pub first_alike : (s : Segment) (cs rest other : List ℕ) → StartsAlike rest other → IsFirst s cs rest → IsFirst s cs other
first_alike s [] rest other alike (longest is none) = absurd cc
first_alike s (c ∷ cs) rest other alike (longest is none) =
    longest is
    (stays_longest c cs other s is
    (ends_alike (goes_on (beginning_of c)) rest other (goes_on-IsBlind (beginning_of c)) alike (ends c cs rest s is none)))
first_alike s cs [] [] alike (unclosed none is_open ended) = unclosed none is_open ended
first_alike s cs [] (d ∷ other) alike (unclosed none is_open ended) = absurd alike
first_alike s cs (c ∷ rest) other alike (unclosed none is_open ended) = absurd cc
first_alike s [] rest other alike (stray none not_open single) = absurd (omega arith)
first_alike s (c ∷ []) rest other alike (stray none not_open single) =
    stays_stray c other (none (c ∷ []) rest refl)
    (ends_alike (makes (beginning_of c)) rest other (makes-IsBlind (beginning_of c)) alike
    (stray_ends (beginning_of c) c rest (λ front after same. none (c ∷ front) after (ap (λ l. c ∷ l) same)) not_open))
first_alike s (c ∷ d ∷ cs) rest other alike (stray none not_open single) = absurd (omega arith)

-- ---- a name in the place of another

-- a name goes on with whatever continues it
name_goes_on : (b : Beginning) → MayBeginName b → goes_on b ≡ is_continuing
name_goes_on b begins = ⊎_elim (λ letter. ap goes_on letter) (λ underscore. ap goes_on underscore) begins

-- a name that is the first segment is the longest prefix with a shape
pub name_longest : (kind : Kind) (cs rest : List ℕ) → IsNameKind kind → IsFirst (Token kind) cs rest → (shape_of cs ≡ Some (Token kind)) × NothingLonger (cs ++ rest) cs
name_longest kind cs rest is (longest shape none) = (shape, none)
name_longest kind cs rest is (unclosed none is_open ended) = absurd (⊎_elim (λ e. cc) (λ e. cc) is)
name_longest kind cs rest is (stray none not_open single) = absurd (⊎_elim (λ e. cc) (λ e. cc) is)

-- behind a name stands nothing that continues it
name_ends : (kind : Kind) (cs rest : List ℕ) → IsNameKind kind → IsFirst (Token kind) cs rest → EndsRun is_continuing rest
name_ends kind [] rest is first = let shape = (name_longest kind [] rest is first).0 in absurd cc
name_ends kind (c ∷ cs) rest is first =
    let found = name_longest kind (c ∷ cs) rest is first in
    subst (λ test. EndsRun test rest) (name_goes_on (beginning_of c) (name_begins c cs kind is found.0)) (ends c cs rest (Token kind) found.0 found.1)

-- another name of the kind is the first segment there too
pub first_renamed : (kind : Kind) (cs ds rest other : List ℕ) → IsNameKind kind → shape_of ds ≡ Some (Token kind) → StartsAlike rest other → IsFirst (Token kind) cs rest → IsFirst (Token kind) ds other
first_renamed kind cs [] rest other is shape alike first = absurd cc
first_renamed kind cs (d ∷ ds) rest other is shape alike first =
    let tests = name_goes_on (beginning_of d) (name_begins d ds kind is shape) in
    longest shape
    (stays_longest d ds other (Token kind) shape
    (subst (λ test. EndsRun test other) (sym tests)
    (ends_alike is_continuing rest other (goes_on-IsBlind begin.Letter) alike (name_ends kind cs rest is first))))

-- ---- texts that start alike

pub front_alike : (cs rest other : List ℕ) → 0 < length cs → StartsAlike (cs ++ rest) (cs ++ other)
front_alike [] rest other some = absurd (omega arith)
front_alike (c ∷ cs) rest other some = inl refl

pub names_alike : (kind : Kind) (cs ds rest other : List ℕ) → IsNameKind kind → shape_of cs ≡ Some (Token kind) → shape_of ds ≡ Some (Token kind) → StartsAlike (cs ++ rest) (ds ++ other)
names_alike kind [] ds rest other is shape shape' = absurd cc
names_alike kind (c ∷ cs) [] rest other is shape shape' = absurd cc
names_alike kind (c ∷ cs) (d ∷ ds) rest other is shape shape' = inr (name_begins c cs kind is shape, name_begins d ds kind is shape')
