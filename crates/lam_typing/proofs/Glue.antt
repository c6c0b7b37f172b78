-- From what the steps of a walk say about it to what they say about types, and back.
use Rattle.std.proofs.Common.{◌≡◌, ◌&&◌, ℕ, ◌<◌, ◌≤◌, List, [], ◌∷◌, ◌++◌, ◌⊎◌, Vec, take, length, string_bytes, String, Option, Some, None, is_some, Bool, true, false, Result, Ok, Err, ap, refl, sym, subst, ◌∙◌, codes, ◌-◌, arith, if◌then◌else◌, inl, inr, append_assoc}
use Rattle.std.specs.Result.{IsErrAnd}
use Rattle.std.proofs.lemmas.List.{append-nil, length-append, take_at}
use Rattle.std.specs.declared.alloc.Global.{Global}
use denote.Ref.{Bor}
use Rattle.lam_rules.specs.Types.{Label, Typ, bool, nat, unit, Fields, field}
use Rattle.lam_rules.specs.Terms.{Term, variable, free, if_then_else, succ, pred, is_zero, lambda, apply, ascribe, let_in, record_term, project, fix, TermFields, no_terms, term_field}
use Rattle.lam_rules.specs.Texts.{Text}
use Rattle.lam_rules.specs.Typing.{Context, IsWellFormedEntry}
use Rattle.lam_rules.specs.Numbers.{Keeps, IsNumberOf, type_of, fields_over}
use Rattle.lam_rules.specs.declared.rules.Dialect.{Dialect}
use Rattle.lam_rules.specs.declared.numbers.TyNo.{TyNo}
use Rattle.lam_rules.proofs.Tables.{keeps_same, keeps_trans, keeps_length, kept_number}
use Rattle.lam_sub.specs.Remembered.{AreRight}
use Rattle.lam_sub.specs.declared.verdicts.Verdicts.{Verdicts}
use Rattle.lam_sub.proofs.Keeping.{right_kept}
use Rattle.lam_scope.specs.InternedViews.{interned_terms}
use Rattle.lam_scope.specs.declared.interned.InternedField.{InternedField}
use Rattle.lam_scope.specs.Places.{Binding, written, of_term, Scope, Place, places, field_places}
use Rattle.lam_scope.specs.declared.numbers.Place.{Place as PlaceNumber}
use Rattle.lam_typing.specs.LeastTypes.{IsLeastAt}
use Rattle.lam_typing.specs.Answers.{answer, answers, StandsWhereFound, AllStandIn, context_under}
use Rattle.lam_typing.specs.Progress.{IsLowest, Progress, Went, WentOver, Cause, next_is_too_large, enough, StoppedIn, AreFieldsAt, blame_step, IsApplicationCode, if_all}
use Rattle.lam_typing.specs.Walk.{blamed_of, blames_of, progress_of, entries_of, IsSoundWalk, Grows, WalkedOver, HasStoppedAmong, HasStopped, HasStoppedInFields, FieldsWalked, HasWalked, HasWalkedFields, blame_at, Settles, StopsAt, HasSettled, IsUpTo, IsWithin}
use Rattle.lam_typing.specs.inner.Steps.{entry_at, IsNumeric, NatRule, LambdaRule, ApplyRule, AscribeRule, LetRule, IfRule, FixRule, ProjectRule, MoreRule, RecordRule}
use Rattle.lam_typing.specs.declared.checker.TypeChecker.{TypeChecker}
use Rattle.lam_typing.specs.declared.blame.Blame.{Blame}
use Rattle.lam_typing.specs.declared.walking.Stop.{Stop}
use Rattle.lam_typing.proofs.Growing.{answer_keep, answers_keep, context_keep, answers-push, length-answers, length-context, context-push, all_stand_keep, all_stand_push, some_answer}
use Rattle.lam_typing.proofs.Together.{went_none, went_both, stopped_front, stopped_behind, stopped_under, IsReady, ready_went, ready_too_large, ready_enough}
use Rattle.lam_typing.proofs.Forms.{free_ready, unbound_ready, variable_ready, numeric_ready, fix_ready, project_ready, ascribe_ready, lambda_ready, let_ready, apply_ready, if_ready, record_ready}

-- the same for equal places, contexts and states

went_as : (g : Context) (ps qs : Scope → List Place) (old now : Progress) (d : Dialect) → ((s : Scope) → ps s ≡ qs s) → Went g ps old now d → Went g qs old now d
went_as g ps qs old now d same a = record {
  found = a.found;
  blames = a.blames;
  found_is = a.found_is;
  blames_are = a.blames_are;
  shown = λ s low. rw (sym (same s)) (a.shown s low);
}

pub went_from : (g h : Context) (ps : Scope → List Place) (p q now : Progress) (d e : Dialect) → g ≡ h → p ≡ q → d ≡ e → Went g ps p now d → Went h ps q now e
went_from g h ps p q now d e same from is went = rw (sym same, sym from, sym is) went

stopped_as : (g : Context) (ps qs : Scope → List Place) (old now : Progress) (cause : Cause) (d : Dialect) → ((s : Scope) → ps s ≡ qs s) → StoppedIn g ps old now cause d → StoppedIn g qs old now cause d
stopped_as g ps qs old now cause d same a = record {
  found = a.found;
  blames = a.blames;
  found_is = a.found_is;
  blames_are = a.blames_are;
  shown = λ s low. rw (sym (same s)) (a.shown s low);
}

-- growth

pub grows_trans : {a b c : TypeChecker} → Grows a b → Grows b c → Grows a c
grows_trans {a = a} {b = b} {c = c} p q = record { sound = q.sound; keeps = keeps_trans a.table b.table c.table p.keeps q.keeps; dialect = q.dialect ∙ p.dialect; last = q.last ∙ p.last }

pub entries_same : (old now : TypeChecker) → IsSoundWalk old → Keeps old.table now.table → now.entries.items ≡ old.entries.items → entries_of now ≡ entries_of old
entries_same old now sound keeps same = ap (λ os. context_under now.table os) same ∙ context_keep old.table now.table old.entries.items keeps sound.entries

pub progress_same : (old now : TypeChecker) → IsSoundWalk old → Keeps old.table now.table → now.found.items ≡ old.found.items → now.blames.items ≡ old.blames.items → progress_of now ≡ progress_of old
progress_same old now sound keeps found blames =
    let f : answers now.table now.found.items ≡ answers old.table old.found.items = ap (λ os. answers now.table os) found ∙ answers_keep old.table now.table old.found.items keeps sound.found in
    let b : blames_of now.blames.items ≡ blames_of old.blames.items = ap blames_of blames in
    rw (f, b)

-- what was found under the entries and in the dialect of an earlier walk, by a later table
pub over_at : (w0 w1 : TypeChecker) (t : List Typ) (g : Context) (e : Term) (x : Option TyNo) (d : Dialect)
    → WalkedOver w0 w1 e x → entries_of w0 ≡ g → w0.verdicts.dialect ≡ d → Keeps w1.table t → WentOver g e (progress_of w0) (progress_of w1) (answer t x) d
over_at w0 w1 t g e x d over same is keeps = rw (sym same, sym is, answer_keep w1.table t x keeps over.stands) over.over

-- a stop in a part

pub among_front : (stop : Stop) (g : Context) (ps qs : Scope → List Place) (old now : TypeChecker) (d : Dialect)
    → HasStoppedAmong stop g ps old now d → HasStoppedAmong stop g (λ s. ps s ++ qs s) old now d
among_front Stop.TooLarge g ps qs old now d h = (stopped_front g ps qs (progress_of old) (progress_of now) next_is_too_large d h.0, h.1)
among_front Stop.Enough g ps qs old now d h = (stopped_front g ps qs (progress_of old) (progress_of now) enough d h.0, h.1)
among_front Stop.Memory g ps qs old now d h = tt

pub among_as : (stop : Stop) (g : Context) (ps qs : Scope → List Place) (old now : TypeChecker) (d : Dialect) → ((s : Scope) → ps s ≡ qs s)
    → HasStoppedAmong stop g ps old now d → HasStoppedAmong stop g qs old now d
among_as Stop.TooLarge g ps qs old now d same h = (stopped_as g ps qs (progress_of old) (progress_of now) next_is_too_large d same h.0, h.1)
among_as Stop.Enough g ps qs old now d same h = (stopped_as g ps qs (progress_of old) (progress_of now) enough d same h.0, h.1)
among_as Stop.Memory g ps qs old now d same h = tt

pub among_behind : (stop : Stop) (g : Context) (ps qs : Scope → List Place) (old mid now : TypeChecker) (d : Dialect)
    → Went g ps (progress_of old) (progress_of mid) d → HasStoppedAmong stop g qs mid now d → HasStoppedAmong stop g (λ s. ps s ++ qs s) old now d
among_behind Stop.TooLarge g ps qs old mid now d went h = (stopped_behind g ps qs (progress_of old) (progress_of mid) (progress_of now) next_is_too_large d went h.0, h.1)
among_behind Stop.Enough g ps qs old mid now d went h = (stopped_behind g ps qs (progress_of old) (progress_of mid) (progress_of now) enough d went h.0, h.1)
among_behind Stop.Memory g ps qs old mid now d went h = tt

pub among_under : (stop : Stop) (b : Binding) (entry : Option Typ) (g : Context) (ps : Scope → List Place) (old now : TypeChecker) (d : Dialect)
    → ((s : Scope) → IsLowest s g d → IsLowest (b ∷ s) (entry ∷ g) d) → HasStoppedAmong stop (entry ∷ g) ps old now d → HasStoppedAmong stop g (λ s. ps (b ∷ s)) old now d
among_under Stop.TooLarge b entry g ps old now d lower h = (stopped_under b entry g ps (progress_of old) (progress_of now) next_is_too_large d lower h.0, h.1)
among_under Stop.Enough b entry g ps old now d lower h = (stopped_under b entry g ps (progress_of old) (progress_of now) enough d lower h.0, h.1)
among_under Stop.Memory b entry g ps old now d lower h = tt

pub among_from : (stop : Stop) (g h : Context) (ps : Scope → List Place) (old other now : TypeChecker) (d e : Dialect)
    → g ≡ h → progress_of old ≡ progress_of other → d ≡ e → HasStoppedAmong stop g ps old now d → HasStoppedAmong stop h ps other now e
among_from Stop.TooLarge g h ps old other now d e same from is stopped = (rw (sym same, sym from, sym is) stopped.0, stopped.1)
among_from Stop.Enough g h ps old other now d e same from is stopped = (rw (sym same, sym from, sym is) stopped.0, stopped.1)
among_from Stop.Memory g h ps old other now d e same from is stopped = tt

-- the table, what is known of it, the entries and what was found may change one by one

abbrev pub stepped : TypeChecker → List Typ → Verdicts → TypeChecker
stepped w t v = record w { table = t; verdicts = v }

sound_with : (w now : TypeChecker) → IsSoundWalk w → Keeps w.table now.table → AllStandIn now.table now.entries.items → AllStandIn now.table now.found.items → AreRight now.table now.verdicts → IsWithin now.last (length now.found.items) → now.leaves ≡ w.leaves → IsSoundWalk now
sound_with w now sound keeps entries found right room same = record {
  entries = entries;
  found = found;
  verdicts = right;
  boolean = subst (λ l. IsNumberOf now.table l.boolean bool) (sym same) (kept_number w.table now.table w.leaves.boolean bool keeps sound.boolean);
  natural = subst (λ l. IsNumberOf now.table l.natural nat) (sym same) (kept_number w.table now.table w.leaves.natural nat keeps sound.natural);
  unit = subst (λ l. IsNumberOf now.table l.unit unit) (sym same) (kept_number w.table now.table w.leaves.unit unit keeps sound.unit);
  room = room;
}

pub grows_same : {w : TypeChecker} → IsSoundWalk w → Grows w w
grows_same {w = w} sound = record { sound = sound; keeps = keeps_same w.table; dialect = refl; last = refl }

pub stepped_grows : {w0 w : TypeChecker} {t : List Typ} {v : Verdicts} → Grows w0 w → Keeps w.table t → AreRight t v → v.dialect ≡ w.verdicts.dialect → Grows w0 (stepped w t v)
stepped_grows {w0 = w0} {w = w} {t = t} {v = v} grows keeps right same = record {
  sound = sound_with w (stepped w t v) grows.sound keeps
      (all_stand_keep w.table t w.entries.items keeps grows.sound.entries) (all_stand_keep w.table t w.found.items keeps grows.sound.found) right grows.sound.room refl;
  keeps = keeps_trans w0.table w.table t grows.keeps keeps;
  dialect = same ∙ grows.dialect;
  last = grows.last;
}

pub retabled_grows : {w0 w : TypeChecker} {t : List Typ} → Grows w0 w → Keeps w.table t → Grows w0 (record w { table = t })
retabled_grows {w = w} {t = t} grows keeps = stepped_grows grows keeps (right_kept w.table t w.verdicts keeps grows.sound.verdicts) refl

pub put_or_not : {A : Type 0} (b : Bool) (v xs ys : A) → v ≡ (if b then xs else ys) → (v ≡ xs) ⊎ (v ≡ ys)
put_or_not true v xs ys e = inl e
put_or_not false v xs ys e = inr e

pub pushed_grows : {w : TypeChecker} {t : List Typ} (v : Vec (Option TyNo) Global) (o : Option TyNo) → IsSoundWalk w → Keeps w.table t
    → (v.items ≡ w.entries.items ++ o ∷ []) ⊎ (v.items ≡ w.entries.items) → StandsWhereFound t o → Grows w (record w { table = t; entries = v })
pushed_grows {w = w} {t = t} v o sound keeps put stands = record {
  sound = sound_with w (record w { table = t; entries = v }) sound keeps (stand put) (all_stand_keep w.table t w.found.items keeps sound.found) (right_kept w.table t w.verdicts keeps sound.verdicts) sound.room refl;
  keeps = keeps;
  dialect = refl;
  last = refl;
}
  where
    before : AllStandIn t w.entries.items
    before = all_stand_keep w.table t w.entries.items keeps sound.entries

    stand : (v.items ≡ w.entries.items ++ o ∷ []) ⊎ (v.items ≡ w.entries.items) → AllStandIn t v.items
    stand (inl e) = subst (λ os. AllStandIn t os) (sym e) (all_stand_push t w.entries.items o before stands)
    stand (inr e) = subst (λ os. AllStandIn t os) (sym e) before

pub popped_grows : {w0 wp w : TypeChecker} {t : List Typ} (v : Vec (Option TyNo) Global) → Grows w0 wp → Grows wp w → Keeps w.table t → v.items ≡ w0.entries.items → IsSoundWalk w0
    → Grows w0 (record w { table = t; entries = v })
popped_grows {w0 = w0} {wp = wp} {w = w} {t = t} v first second keeps same sound =
    let all = keeps_trans w0.table w.table t (keeps_trans w0.table wp.table w.table first.keeps second.keeps) keeps in
    record {
      sound = sound_with w (record w { table = t; entries = v }) second.sound keeps
          (subst (λ os. AllStandIn t os) (sym same) (all_stand_keep w0.table t w0.entries.items all sound.entries))
          (all_stand_keep w.table t w.found.items keeps second.sound.found) (right_kept w.table t w.verdicts keeps second.sound.verdicts) second.sound.room refl;
      keeps = all;
      dialect = second.dialect ∙ first.dialect;
      last = second.last ∙ first.last;
    }

pub up_to_same : (last : Option PlaceNumber) (n m : ℕ) → n ≡ m → IsUpTo last n → IsUpTo last m
up_to_same last n m same h = subst (λ k. IsUpTo last k) same h

within_more : (last : Option PlaceNumber) (os : List (Option TyNo)) (o : Option TyNo) (now : List (Option TyNo)) → IsUpTo last (length os) → now ≡ os ++ o ∷ [] → IsWithin last (length now)
within_more None os o now up_to put = tt
within_more (Some last) os o now up_to put =
    let longer = ap length put in
    let count = length-append os (o ∷ []) in
    omega (arith, longer, count, up_to)

pub settle_grows : (w : TypeChecker) (fs : Vec (Option TyNo) Global) (bs : Vec Blame Global) (found : Option TyNo) → IsSoundWalk w → StandsWhereFound w.table found
    → fs.items ≡ w.found.items ++ found ∷ [] → IsUpTo w.last (length w.found.items) → Grows w (record w { found = fs; blames = bs })
settle_grows w fs bs found sound stands put up_to = record {
  sound = sound_with w (record w { found = fs; blames = bs }) sound (keeps_same w.table) sound.entries
      (subst (λ os. AllStandIn w.table os) (sym put) (all_stand_push w.table w.found.items found sound.found stands)) sound.verdicts (within_more w.last w.found.items found fs.items up_to put) refl;
  keeps = keeps_same w.table;
  dialect = refl;
  last = refl;
}

pub blames_push : (bs : List Blame) (b : Blame) → blames_of (bs ++ b ∷ []) ≡ blames_of bs ++ blamed_of b ∷ []
blames_push [] b = refl
blames_push (a ∷ bs) b = ap (λ rest. blamed_of a ∷ rest) (blames_push bs b)

pub under_entry : (w : TypeChecker) (t : List Typ) (v : Vec (Option TyNo) Global) (o : Option TyNo) (x : Option Typ) → IsSoundWalk w → Keeps w.table t
    → v.items ≡ w.entries.items ++ o ∷ [] → answer t o ≡ x → entries_of (record w { table = t; entries = v }) ≡ x ∷ entries_of w
under_entry w t v o x sound keeps put is =
    ap (λ os. context_under t os) put ∙ context-push t w.entries.items o
    ∙ ap (λ y. y ∷ context_under t w.entries.items) is ∙ ap (λ g. x ∷ g) (context_keep w.table t w.entries.items keeps sound.entries)

-- the walk is under one more entry, and has found nothing since
pub record IsUnder (old now : TypeChecker) (entry : Option Typ) : Type 0 where
  pub entries : entries_of now ≡ entry ∷ entries_of old
  pub progress : progress_of now ≡ progress_of old
  pub dialect : now.verdicts.dialect ≡ old.verdicts.dialect

pub pushed_under : {w : TypeChecker} {t : List Typ} {x : Option Typ} (v : Vec (Option TyNo) Global) (o : Option TyNo)
    → IsSoundWalk w → Keeps w.table t → v.items ≡ w.entries.items ++ o ∷ [] → answer t o ≡ x → IsUnder w (record w { table = t; entries = v }) x
pushed_under {w = w} {t = t} {x = x} v o sound keeps put is = record {
  entries = under_entry w t v o x sound keeps put is;
  progress = progress_same w (record w { table = t; entries = v }) sound keeps refl refl;
  dialect = refl;
}

-- the last entry is taken off again
pub popped_is : {os pushed entries popped : List (Option TyNo)} {n : ℕ} (o : Option TyNo)
    → pushed ≡ os ++ o ∷ [] → entries ≡ pushed → popped ≡ take (n - 1) entries → n ≡ length entries → popped ≡ os
popped_is {os = os} {entries = entries} {n = n} o put same rest size =
    let all : entries ≡ os ++ o ∷ [] = same ∙ put in
    let shorter : length os ≡ n - 1 = omega (arith, size, ap length all, length-append os (o ∷ [])) in
    rest ∙ ap (take (n - 1)) all ∙ take_at os (o ∷ []) (n - 1) shorter

pub parts_empty : (after before parts : List (String Global × TyNo)) → after ≡ before ++ parts → before ≡ [] → after ≡ parts
parts_empty after before parts are none = are ∙ ap (λ xs. xs ++ parts) none

-- an error that is passed on

pub err_walked : (r : Result (Option TyNo) Stop) (stop : Stop) (w0 now : TypeChecker) (e : Term)
    → IsErrAnd r (λ y. y ≡ stop) → HasStopped stop w0 now e → HasWalked r w0 now e
err_walked (Ok x) stop w0 now e is stopped = absurd is
err_walked (Err s) stop w0 now e is stopped = subst (λ x. HasStopped x w0 now e) (sym is) stopped

pub err_fields_walked : (r : Result Bool Stop) (stop : Stop) (w0 now : TypeChecker) (es : TermFields) (before after : List (String Global × TyNo))
    → IsErrAnd r (λ y. y ≡ stop) → HasStoppedInFields stop w0 now es → HasWalkedFields r w0 now es before after
err_fields_walked (Ok x) stop w0 now es before after is stopped = absurd is
err_fields_walked (Err s) stop w0 now es before after is stopped = subst (λ x. HasStoppedInFields x w0 now es) (sym is) stopped

-- the terms of a record, one after the other

fields_none : (w : TypeChecker) (items : List (String Global × TyNo)) → FieldsWalked w w no_terms items items true
fields_none w items = record {
  entries = refl;
  parts = [];
  parts_are = sym (append-nil items);
  stand = tt;
  went = went_none (entries_of w) (progress_of w) w.verdicts.dialect;
  fields = λ s low. refl;
}

pub no_fields_walked : (w : TypeChecker) (fs : List InternedField) (items : List (String Global × TyNo)) → length fs ≡ 0 → FieldsWalked w w (interned_terms w.table fs) items items true
no_fields_walked w [] items e = fields_none w items
no_fields_walked w (f ∷ fs) items e = absurd (omega arith)

-- those that follow, under the entries and in the dialect of an earlier walk
fields_at : (w1 w2 : TypeChecker) (g : Context) (es : TermFields) (before after : List (String Global × TyNo)) (all : Bool) (d : Dialect)
    → (rest : FieldsWalked w1 w2 es before after all) → entries_of w1 ≡ g → w1.verdicts.dialect ≡ d
    → Went g (λ s. field_places s es) (progress_of w1) (progress_of w2) d × ((s : Scope) → IsLowest s g d → AreFieldsAt s es (if_all all (fields_over w2.table rest.parts)) d)
fields_at w1 w2 g es before after all d rest same is = rw (sym same, sym is) (rest.went, rest.fields)

pub fields_unfound : (w0 w1 w2 : TypeChecker) (l : Label) (e : Term) (es : TermFields) (found : Option TyNo) (before after : List (String Global × TyNo)) (all : Bool)
    → IsSoundWalk w0 → Grows w0 w1 → WalkedOver w0 w1 e found → found ≡ None → FieldsWalked w1 w2 es before after all
    → FieldsWalked w0 w2 (term_field l e es) before after false
fields_unfound w0 w1 w2 l e es found before after all sound grows first none rest =
    let d = w0.verdicts.dialect in
    let others = fields_at w1 w2 (entries_of w0) es before after all d rest (entries_same w0 w1 sound grows.keeps first.entries) grows.dialect in
    record {
      entries = rest.entries ∙ first.entries;
      parts = rest.parts;
      parts_are = rest.parts_are;
      stand = rest.stand;
      went = went_both (entries_of w0) (λ s. places s e) (λ s. field_places s es) (progress_of w0) (progress_of w1) (progress_of w2) d first.over.went others.0;
      fields = λ s low. (
        answer w1.table found,
        if_all all (fields_over w2.table rest.parts),
        first.over.least s low,
        others.1 s low,
        subst (λ o. MoreRule l (answer w1.table o) (if_all all (fields_over w2.table rest.parts)) None) (sym none) refl,
      );
    }

more_rule : (l k : Label) (t u : Typ) (all : Bool) (fs : Fields) → k ≡ l → u ≡ t → MoreRule l (Some t) (if_all all fs) (if_all all (field k u fs))
more_rule l k t u true fs same_label same_type = rw (same_label, same_type)
more_rule l k t u false fs same_label same_type = refl

pub fields_found : (w0 w1 w2 : TypeChecker) (l : Label) (e : Term) (es : TermFields) (found : Option TyNo) (label : String Global) (number : TyNo) (before pushed after : List (String Global × TyNo)) (all : Bool)
    → IsSoundWalk w0 → Grows w0 w1 → WalkedOver w0 w1 e found → found ≡ Some number → Grows w1 w2 → pushed ≡ before ++ (label, number) ∷ [] → string_bytes label ≡ l
    → FieldsWalked w1 w2 es pushed after all → FieldsWalked w0 w2 (term_field l e es) before after all
fields_found w0 w1 w2 l e es found label number before pushed after all sound grows first is more put same_label rest =
    let d = w0.verdicts.dialect in
    let others = fields_at w1 w2 (entries_of w0) es pushed after all d rest (entries_same w0 w1 sound grows.keeps first.entries) grows.dialect in
    let stands = subst (λ o. StandsWhereFound w1.table o) is first.stands in
    let longer = keeps_length w1.table w2.table more.keeps in
    let kept : Some (type_of w2.table number) ≡ Some (type_of w1.table number) = answer_keep w1.table w2.table (Some number) more.keeps stands in
    let same_type : type_of w2.table number ≡ type_of w1.table number = (cc) in
    record {
      entries = rest.entries ∙ first.entries;
      parts = (label, number) ∷ rest.parts;
      parts_are = rest.parts_are ∙ ap (λ xs. xs ++ rest.parts) put ∙ append_assoc before ((label, number) ∷ []) rest.parts;
      stand = (omega arith, rest.stand);
      went = went_both (entries_of w0) (λ s. places s e) (λ s. field_places s es) (progress_of w0) (progress_of w1) (progress_of w2) d first.over.went others.0;
      fields = λ s low. (
        Some (type_of w1.table number),
        if_all all (fields_over w2.table rest.parts),
        subst (λ o. IsLeastAt s e (answer w1.table o) d) is (first.over.least s low),
        others.1 s low,
        more_rule l (string_bytes label) (type_of w1.table number) (type_of w2.table number) all (fields_over w2.table rest.parts) same_label same_type,
      );
    }

pub fields_front : (stop : Stop) (w0 w1 : TypeChecker) (l : Label) (e : Term) (es : TermFields) → HasStopped stop w0 w1 e → HasStoppedInFields stop w0 w1 (term_field l e es)
fields_front stop w0 w1 l e es stopped = among_front stop (entries_of w0) (λ s. places s e) (λ s. field_places s es) w0 w1 w0.verdicts.dialect stopped

pub fields_behind : (stop : Stop) (w0 w1 w2 : TypeChecker) (l : Label) (e : Term) (es : TermFields) (found : Option TyNo)
    → IsSoundWalk w0 → Grows w0 w1 → WalkedOver w0 w1 e found → HasStoppedInFields stop w1 w2 es → HasStoppedInFields stop w0 w2 (term_field l e es)
fields_behind stop w0 w1 w2 l e es found sound grows first stopped =
    let d = w0.verdicts.dialect in
    among_behind stop (entries_of w0) (λ s. places s e) (λ s. field_places s es) w0 w1 w2 d first.over.went
    (among_from stop (entries_of w1) (entries_of w0) (λ s. field_places s es) w1 w1 w2 w1.verdicts.dialect d (entries_same w0 w1 sound grows.keeps first.entries) refl grows.dialect stopped)

pub fields_then : (r : Result Bool Stop) (w0 w1 w2 : TypeChecker) (l : Label) (e : Term) (es : TermFields) (found : Option TyNo) (label : String Global) (number : TyNo) (before pushed after : List (String Global × TyNo))
    → IsSoundWalk w0 → Grows w0 w1 → WalkedOver w0 w1 e found → found ≡ Some number → Grows w1 w2 → pushed ≡ before ++ (label, number) ∷ [] → string_bytes label ≡ l
    → HasWalkedFields r w1 w2 es pushed after → HasWalkedFields r w0 w2 (term_field l e es) before after
fields_then (Ok all) w0 w1 w2 l e es found label number before pushed after sound grows first is more put same_label rest =
    fields_found w0 w1 w2 l e es found label number before pushed after all sound grows first is more put same_label rest
fields_then (Err stop) w0 w1 w2 l e es found label number before pushed after sound grows first is more put same_label rest =
    fields_behind stop w0 w1 w2 l e es found sound grows first rest

-- the term itself is recorded

pub settled_over : (w0 mid now : TypeChecker) (e : Term) (ps : Scope → List Place) (found : Option TyNo) (blame : Option (Bor Text))
    → ((s : Scope) → ps s ++ record { scope = s; here = e } ∷ [] ≡ places s e)
    → mid.entries.items ≡ w0.entries.items → StandsWhereFound mid.table found
    → IsReady (entries_of w0) e ps (progress_of w0) (progress_of mid) (answer mid.table found) (blame_at (length mid.found.items) blame) w0.verdicts.dialect
    → Settles mid now found blame → WalkedOver w0 now e found
settled_over w0 mid now e ps found blame split same stands ready settles = record {
  entries = settles.entries ∙ same;
  stands = subst (λ t. StandsWhereFound t found) (sym settles.table) stands;
  over = subst (λ o. WentOver (entries_of w0) e (progress_of w0) (progress_of now) o w0.verdicts.dialect) (ap (λ t. answer t found) (sym settles.table))
      record {
        went = went_as (entries_of w0) (λ s. ps s ++ record { scope = s; here = e } ∷ []) (λ s. places s e) (progress_of w0) (progress_of now) w0.verdicts.dialect split
            (ready_went (entries_of w0) e ps (progress_of w0) (progress_of mid) (progress_of now) (answer mid.table found) (blame_at (length mid.found.items) blame) w0.verdicts.dialect ready
            (ap (λ t. answers t now.found.items) settles.table ∙ ap (λ os. answers mid.table os) settles.found_is ∙ answers-push mid.table mid.found.items found)
            settles.blames_are
            settles.small);
        least = ready.least;
      };
}

pub settled_stop : (stop : Stop) (w0 mid now : TypeChecker) (e : Term) (ps : Scope → List Place) (found : Option TyNo) (blame : Option (Bor Text))
    → ((s : Scope) → ps s ++ record { scope = s; here = e } ∷ [] ≡ places s e)
    → mid.entries.items ≡ w0.entries.items → StandsWhereFound mid.table found
    → IsReady (entries_of w0) e ps (progress_of w0) (progress_of mid) (answer mid.table found) (blame_at (length mid.found.items) blame) w0.verdicts.dialect
    → StopsAt stop mid now found blame → HasStopped stop w0 now e
settled_stop Stop.Memory w0 mid now e ps found blame split same stands ready stops = tt
settled_stop Stop.Enough w0 mid now e ps found blame split same stands ready stops =
    subst (λ w. HasStopped Stop.Enough w0 w e) (sym stops.0) (
      stopped_as (entries_of w0) (λ s. ps s ++ record { scope = s; here = e } ∷ []) (λ s. places s e) (progress_of w0) (progress_of mid) enough w0.verdicts.dialect split
          (ready_enough (entries_of w0) e ps (progress_of w0) (progress_of mid) (answer mid.table found) (blame_at (length mid.found.items) blame) w0.verdicts.dialect ready),
      stops.1,
    )
settled_stop Stop.TooLarge w0 mid now e ps None blame split same stands ready stops = absurd stops.1
settled_stop Stop.TooLarge w0 mid now e ps (Some number) blame split same stands ready stops =
    subst (λ w. HasStopped Stop.TooLarge w0 w e) (sym stops.0) (
      stopped_as (entries_of w0) (λ s. ps s ++ record { scope = s; here = e } ∷ []) (λ s. places s e) (progress_of w0) (progress_of mid) next_is_too_large w0.verdicts.dialect split
          (ready_too_large (entries_of w0) e ps (progress_of w0) (progress_of mid) _ (blame_at (length mid.found.items) blame) w0.verdicts.dialect ready stops.1),
      stops.2,
    )

-- what a step blames a term for, given type ids
abbrev pub Blames : Bool → Option TyNo → Text → Option (Bor Text) → Type 0
Blames parts found code blame = (ts : List Typ) (n : ℕ) → blame_at n blame ≡ blame_step n parts (answer ts found) code

ready_at : (mid : TypeChecker) (g : Context) (e : Term) (ps : Scope → List Place) (old : Progress) (found : Option TyNo) (parts seen : Bool) (code : Text) (blame : Option (Bor Text)) (d : Dialect)
    → IsReady g e ps old (progress_of mid) (answer mid.table found) (blame_step (length (answers mid.table mid.found.items)) seen (answer mid.table found) code) d
    → seen ≡ parts → Blames parts found code blame
    → IsReady g e ps old (progress_of mid) (answer mid.table found) (blame_at (length mid.found.items) blame) d
ready_at mid g e ps old found parts seen code blame d ready same blames =
    let is : blame_step (length (answers mid.table mid.found.items)) seen (answer mid.table found) code ≡ blame_at (length mid.found.items) blame =
    rw (length-answers mid.table mid.found.items, same) (sym (blames mid.table (length mid.found.items))) in
    subst (λ bs. IsReady g e ps old (progress_of mid) (answer mid.table found) bs d) is ready

-- the same for the result of a step
pub settled_walked : (r : Result (Option TyNo) Stop) (w0 mid now : TypeChecker) (e : Term) (ps : Scope → List Place) (found : Option TyNo) (blame : Option (Bor Text))
    → HasSettled r mid now found blame
    → IsReady (entries_of w0) e ps (progress_of w0) (progress_of mid) (answer mid.table found) (blame_at (length mid.found.items) blame) w0.verdicts.dialect
    → mid.entries.items ≡ w0.entries.items → StandsWhereFound mid.table found
    → ((s : Scope) → ps s ++ record { scope = s; here = e } ∷ [] ≡ places s e)
    → HasWalked r w0 now e
settled_walked (Ok number) w0 mid now e ps found blame h ready same stands split =
    subst (λ o. WalkedOver w0 now e o) (sym h.0) (settled_over w0 mid now e ps found blame split same stands ready h.1)
settled_walked (Err stop) w0 mid now e ps found blame h ready same stands split = settled_stop stop w0 mid now e ps found blame split same stands ready h

-- terms without parts

pub leaf_parts : (w : TypeChecker) (e : Term) (number : TyNo) (t : Typ) → IsNumberOf w.table number t
    → IsReady (entries_of w) e (λ s. []) (progress_of w) (progress_of w) (Some t) [] w.verdicts.dialect
    → IsReady (entries_of w) e (λ s. []) (progress_of w) (progress_of w) (answer w.table (Some number)) (blame_at (length w.found.items) None) w.verdicts.dialect
leaf_parts w e number t is ready = subst (λ o. IsReady (entries_of w) e (λ s. []) (progress_of w) (progress_of w) o [] w.verdicts.dialect) (ap Some (sym is.type)) ready

pub free_parts : (w : TypeChecker) (x : List ℕ) (blame : Option (Bor Text)) → Blames true None (codes "E1") blame
    → IsReady (entries_of w) (free x) (λ s. []) (progress_of w) (progress_of w) (answer w.table None) (blame_at (length w.found.items) blame) w.verdicts.dialect
free_parts w x blame blames =
    let d = w.verdicts.dialect in
    ready_at w (entries_of w) (free x) (λ s. []) (progress_of w) None true true (codes "E1") blame d (free_ready (entries_of w) x (progress_of w) d) refl blames

pub unbound_parts : (w : TypeChecker) (n : ℕ) (blame : Option (Bor Text)) → length w.entries.items ≤ n → Blames true None (codes "E1") blame
    → IsReady (entries_of w) (variable n) (λ s. []) (progress_of w) (progress_of w) (answer w.table None) (blame_at (length w.found.items) blame) w.verdicts.dialect
unbound_parts w n blame le blames =
    let d = w.verdicts.dialect in
    ready_at w (entries_of w) (variable n) (λ s. []) (progress_of w) None true true (codes "E1") blame d
    (unbound_ready (entries_of w) n (progress_of w) d (let e = length-context w.table w.entries.items in omega arith)) refl blames

pub variable_parts : (w : TypeChecker) (n : ℕ) (found : Option TyNo) → n < length w.entries.items → answer w.table found ≡ entry_at n (entries_of w)
    → IsReady (entries_of w) (variable n) (λ s. []) (progress_of w) (progress_of w) (answer w.table found) (blame_at (length w.found.items) None) w.verdicts.dialect
variable_parts w n found lt is =
    variable_ready (entries_of w) n (answer w.table found) (progress_of w) w.verdicts.dialect (let e = length-context w.table w.entries.items in omega arith) is

-- terms with one part

-- an operation on a number has one place behind those of its operand
pub numeric_places : (q e : Term) (t : Typ) → IsNumeric q e t → (s : Scope) → places s e ++ record { scope = s; here = q } ∷ [] ≡ places s q
numeric_places (succ p) e t is s = ap (λ r. places s r ++ record { scope = s; here = succ p } ∷ []) (sym is.0)
numeric_places (pred p) e t is s = ap (λ r. places s r ++ record { scope = s; here = pred p } ∷ []) (sym is.0)
numeric_places (is_zero p) e t is s = ap (λ r. places s r ++ record { scope = s; here = is_zero p } ∷ []) (sym is.0)
numeric_places _ e t is s = absurd is

module _ (w0 w1 : TypeChecker) (e : Term) (x found : Option TyNo) (blame : Option (Bor Text)) (grows : Grows w0 w1) (over : WalkedOver w0 w1 e x) where
  -- an operation on a number, by the number of the type that the whole has
  pub numeric_parts : (q : Term) (outcome : TyNo) → StandsWhereFound w0.table (Some outcome) → IsNumeric q e (type_of w0.table outcome)
      → NatRule (type_of w1.table outcome) (answer w1.table x) (answer w1.table found) w1.verdicts.dialect → Blames (is_some x) found (codes "E6") blame
      → IsReady (entries_of w0) q (λ s. places s e) (progress_of w0) (progress_of w1) (answer w1.table found) (blame_at (length w1.found.items) blame) w0.verdicts.dialect
  numeric_parts q outcome stands is rule blames =
      let kept : Some (type_of w1.table outcome) ≡ Some (type_of w0.table outcome) = answer_keep w0.table w1.table (Some outcome) grows.keeps stands in
      let same : type_of w1.table outcome ≡ type_of w0.table outcome = (cc) in
      ready_at w1 (entries_of w0) q (λ s. places s e) (progress_of w0) found (is_some x) (is_some (answer w1.table x)) (codes "E6") blame w0.verdicts.dialect
      (numeric_ready (entries_of w0) e (progress_of w0) (progress_of w1) (answer w1.table x) (answer w1.table found) w0.verdicts.dialect over.over q (type_of w0.table outcome) is
      (subst (λ d. NatRule (type_of w0.table outcome) (answer w1.table x) (answer w1.table found) d) grows.dialect (subst (λ t. NatRule t (answer w1.table x) (answer w1.table found) w1.verdicts.dialect) same rule)))
      (some_answer w1.table x) blames

  pub fix_parts : FixRule (answer w1.table x) (answer w1.table found) w1.verdicts.dialect → Blames (is_some x) found (codes "E8") blame
      → IsReady (entries_of w0) (fix e) (λ s. places s e) (progress_of w0) (progress_of w1) (answer w1.table found) (blame_at (length w1.found.items) blame) w0.verdicts.dialect
  fix_parts rule blames = ready_at w1 (entries_of w0) (fix e) (λ s. places s e) (progress_of w0) found (is_some x) (is_some (answer w1.table x)) (codes "E8") blame w0.verdicts.dialect
      (fix_ready (entries_of w0) e (progress_of w0) (progress_of w1) (answer w1.table x) (answer w1.table found) w0.verdicts.dialect over.over
      (subst (λ d. FixRule (answer w1.table x) (answer w1.table found) d) grows.dialect rule)) (some_answer w1.table x) blames

  pub project_parts : (l : Label) → ProjectRule l (answer w1.table x) (answer w1.table found) → Blames (is_some x) found (codes "E4") blame
      → IsReady (entries_of w0) (project e l) (λ s. places s e) (progress_of w0) (progress_of w1) (answer w1.table found) (blame_at (length w1.found.items) blame) w0.verdicts.dialect
  project_parts l rule blames = ready_at w1 (entries_of w0) (project e l) (λ s. places s e) (progress_of w0) found (is_some x) (is_some (answer w1.table x)) (codes "E4") blame w0.verdicts.dialect
      (project_ready (entries_of w0) e (progress_of w0) (progress_of w1) (answer w1.table x) (answer w1.table found) w0.verdicts.dialect over.over l rule) (some_answer w1.table x) blames

  -- an ascription, whose written type already had its number
  pub ascribe_parts : (number : Option TyNo) → StandsWhereFound w0.table number
      → AscribeRule (answer w1.table number) (answer w1.table x) (answer w1.table found) w1.verdicts.dialect → Blames (is_some x && is_some number) found (codes "E7") blame
      → IsReady (entries_of w0) (ascribe e (answer w0.table number)) (λ s. places s e) (progress_of w0) (progress_of w1) (answer w1.table found) (blame_at (length w1.found.items) blame) w0.verdicts.dialect
  ascribe_parts number stands rule blames =
      let w = answer w0.table number in
      let d = w0.verdicts.dialect in
      let same = answer_keep w0.table w1.table number grows.keeps stands in
      let seen : (is_some (answer w1.table x) && is_some w) ≡ (is_some x && is_some number) = rw (some_answer w1.table x, some_answer w0.table number) in
      ready_at w1 (entries_of w0) (ascribe e w) (λ s. places s e) (progress_of w0) found (is_some x && is_some number) (is_some (answer w1.table x) && is_some w) (codes "E7") blame d
      (ascribe_ready (entries_of w0) e (progress_of w0) (progress_of w1) (answer w1.table x) (answer w1.table found) d over.over w
      (subst (λ v. AscribeRule v (answer w1.table x) (answer w1.table found) d) same
      (subst (λ b. AscribeRule (answer w1.table number) (answer w1.table x) (answer w1.table found) b) grows.dialect rule)))
      seen blames

-- the same for an equal context and equal states, type and dialect
over_as : (g h : Context) (e : Term) (p p' q q' : Progress) (o o' : Option Typ) (d d' : Dialect)
    → g ≡ h → p ≡ p' → q ≡ q' → o ≡ o' → d ≡ d' → WentOver g e p q o d → WentOver h e p' q' o' d'
over_as g h e p p' q q' o o' d d' a b c f i over = rw (sym a, sym b, sym c, sym f, sym i) over

-- a lambda: the walk over its body under one more entry
pub lambda_parts : (w0 w2 w3 w5 : TypeChecker) (e : Term) (w : Option Typ) (outcome found : Option TyNo)
    → IsWellFormedEntry w → IsUnder w0 w2 w → WalkedOver w2 w3 e outcome → progress_of w5 ≡ progress_of w3
    → LambdaRule w (answer w3.table outcome) (answer w5.table found)
    → IsReady (entries_of w0) (lambda w e) (λ s. places (written w ∷ s) e) (progress_of w0) (progress_of w5) (answer w5.table found) (blame_at (length w5.found.items) None) w0.verdicts.dialect
lambda_parts w0 w2 w3 w5 e w outcome found wf under over to rule =
    let d = w0.verdicts.dialect in
    lambda_ready (entries_of w0) w e (progress_of w0) (progress_of w5) (answer w3.table outcome) (answer w5.table found) d wf
    (over_as (entries_of w2) (w ∷ entries_of w0) e (progress_of w2) (progress_of w0) (progress_of w3) (progress_of w5) (answer w3.table outcome) (answer w3.table outcome) w2.verdicts.dialect d under.entries under.progress (sym to) refl under.dialect over.over)
    rule

-- a let: the walk over its first term, and over its second one under one more entry
pub let_parts : (w0 w1 w2 w3 w4 : TypeChecker) (a b : Term) (bound outcome found : Option TyNo)
    → IsSoundWalk w0 → Grows w0 w1 → WalkedOver w0 w1 a bound → IsUnder w1 w2 (answer w1.table bound) → WalkedOver w2 w3 b outcome → progress_of w4 ≡ progress_of w3
    → LetRule (answer w1.table bound) (answer w3.table outcome) (answer w4.table found)
    → IsReady (entries_of w0) (let_in a b) (λ s. places s a ++ places (of_term a ∷ s) b) (progress_of w0) (progress_of w4) (answer w4.table found) (blame_at (length w4.found.items) None) w0.verdicts.dialect
let_parts w0 w1 w2 w3 w4 a b bound outcome found sound grows over_a under over_b to rule =
    let d = w0.verdicts.dialect in
    let same = entries_same w0 w1 sound grows.keeps over_a.entries in
    let_ready (entries_of w0) a b (progress_of w0) (progress_of w1) (progress_of w4) (answer w1.table bound) (answer w3.table outcome) (answer w4.table found) d over_a.over
    (over_as (entries_of w2) (answer w1.table bound ∷ entries_of w0) b (progress_of w2) (progress_of w1) (progress_of w3) (progress_of w4) (answer w3.table outcome) (answer w3.table outcome) w2.verdicts.dialect d
    (under.entries ∙ ap (λ g. answer w1.table bound ∷ g) same) under.progress (sym to) refl (under.dialect ∙ grows.dialect) over_b.over)
    rule

-- terms with several parts in one scope

pub apply_parts : (w0 w1 w2 : TypeChecker) (f a : Term) (x y found : Option TyNo) (code : Text) (blame : Option (Bor Text))
    → IsSoundWalk w0 → Grows w0 w1 → WalkedOver w0 w1 f x → Grows w1 w2 → WalkedOver w1 w2 a y
    → ApplyRule (answer w2.table x) (answer w2.table y) (answer w2.table found) w2.verdicts.dialect → IsApplicationCode code (answer w2.table x) → Blames (is_some x && is_some y) found code blame
    → IsReady (entries_of w0) (apply f a) (λ s. places s f ++ places s a) (progress_of w0) (progress_of w2) (answer w2.table found) (blame_at (length w2.found.items) blame) w0.verdicts.dialect
apply_parts w0 w1 w2 f a x y found code blame sound grows_f over_f grows_a over_a rule is_code blames =
    let t = w2.table in
    let d = w0.verdicts.dialect in
    let same = entries_same w0 w1 sound grows_f.keeps over_f.entries in
    let seen : (is_some (answer t x) && is_some (answer t y)) ≡ (is_some x && is_some y) = rw (some_answer t x, some_answer t y) in
    ready_at w2 (entries_of w0) (apply f a) (λ s. places s f ++ places s a) (progress_of w0) found (is_some x && is_some y) (is_some (answer t x) && is_some (answer t y)) code blame d
    (apply_ready (entries_of w0) f a (progress_of w0) (progress_of w1) (progress_of w2) (answer t x) (answer t y) (answer t found) code d
    (over_at w0 w1 t (entries_of w0) f x d over_f refl refl grows_a.keeps)
    (over_at w1 w2 t (entries_of w0) a y d over_a same grows_f.dialect (keeps_same t))
    (subst (λ b. ApplyRule (answer t x) (answer t y) (answer t found) b) (grows_a.dialect ∙ grows_f.dialect) rule) is_code)
    seen blames

-- the table grows once more, by the join
pub if_parts : (w0 w1 w2 w3 w4 : TypeChecker) (e1 e2 e3 : Term) (x y z found : Option TyNo) (blame : Option (Bor Text))
    → IsSoundWalk w0 → Grows w0 w1 → WalkedOver w0 w1 e1 x → Grows w1 w2 → WalkedOver w1 w2 e2 y → Grows w2 w3 → WalkedOver w2 w3 e3 z → progress_of w4 ≡ progress_of w3
    → IfRule (answer w3.table x) (answer w3.table y) (answer w3.table z) (answer w4.table found) w3.verdicts.dialect → Blames (is_some x && (is_some y && is_some z)) found (codes "E5") blame
    → IsReady (entries_of w0) (if_then_else e1 e2 e3) (λ s. (places s e1 ++ places s e2) ++ places s e3) (progress_of w0) (progress_of w4) (answer w4.table found) (blame_at (length w4.found.items) blame) w0.verdicts.dialect
if_parts w0 w1 w2 w3 w4 e1 e2 e3 x y z found blame sound r1 o1 r2 o2 r3 o3 to rule blames =
    let t = w3.table in
    let d = w0.verdicts.dialect in
    let same1 = entries_same w0 w1 sound r1.keeps o1.entries in
    let same2 = entries_same w1 w2 r1.sound r2.keeps o2.entries ∙ same1 in
    let is2 = r2.dialect ∙ r1.dialect in
    let seen : (is_some (answer t x) && (is_some (answer t y) && is_some (answer t z))) ≡ (is_some x && (is_some y && is_some z)) = rw (some_answer t x, some_answer t y, some_answer t z) in
    ready_at w4 (entries_of w0) (if_then_else e1 e2 e3) (λ s. (places s e1 ++ places s e2) ++ places s e3) (progress_of w0) found (is_some x && (is_some y && is_some z))
    (is_some (answer t x) && (is_some (answer t y) && is_some (answer t z))) (codes "E5") blame d
    (if_ready (entries_of w0) e1 e2 e3 (progress_of w0) (progress_of w1) (progress_of w2) (progress_of w4) (answer t x) (answer t y) (answer t z) (answer w4.table found) d
    (over_at w0 w1 t (entries_of w0) e1 x d o1 refl refl (keeps_trans w1.table w2.table w3.table r2.keeps r3.keeps))
    (over_at w1 w2 t (entries_of w0) e2 y d o2 same1 r1.dialect r3.keeps)
    (over_as (entries_of w2) (entries_of w0) e3 (progress_of w2) (progress_of w2) (progress_of w3) (progress_of w4) (answer t z) (answer t z) w2.verdicts.dialect d same2 refl (sym to) refl is2 o3.over)
    (subst (λ b. IfRule (answer t x) (answer t y) (answer t z) (answer w4.table found) b) (r3.dialect ∙ is2) rule))
    seen blames

-- a record
pub record_parts : (w0 w1 w2 : TypeChecker) (es : TermFields) (before after : List (String Global × TyNo)) (all : Bool) (found : Option TyNo) (blame : Option (Bor Text))
    → (over : FieldsWalked w0 w1 es before after all) → progress_of w2 ≡ progress_of w1
    → RecordRule (if_all all (fields_over w1.table over.parts)) (answer w2.table found) → Blames all found (codes "E9") blame
    → IsReady (entries_of w0) (record_term es) (λ s. field_places s es) (progress_of w0) (progress_of w2) (answer w2.table found) (blame_at (length w2.found.items) blame) w0.verdicts.dialect
record_parts w0 w1 w2 es before after all found blame over to rule blames =
    let d = w0.verdicts.dialect in
    ready_at w2 (entries_of w0) (record_term es) (λ s. field_places s es) (progress_of w0) found all all (codes "E9") blame d
    (record_ready (entries_of w0) es (progress_of w0) (progress_of w2) all (fields_over w1.table over.parts) (answer w2.table found) d
    (subst (λ p. Went (entries_of w0) (λ s. field_places s es) (progress_of w0) p d) (sym to) over.went) over.fields rule)
    refl blames
