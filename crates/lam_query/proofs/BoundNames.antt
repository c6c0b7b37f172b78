-- What commands have bound stays as the table of types grows; what one command more binds is added to it.
use Rattle.std.proofs.Common.{◌≡◌, List, Bool, true, false, Option, Some, None, refl, ap, sym, subst, ◌∙◌}
use Rattle.std.specs.Prelude.{if◌then◌else◌, IfSome}
use Rattle.std.specs.Option.{option_map}
use Rattle.lam_rules.specs.Types.{Typ}
use Rattle.lam_rules.specs.Numbers.{Keeps}
use Rattle.lam_rules.specs.declared.numbers.TyNo.{TyNo}
use Rattle.lam_syntax.specs.Trees.{CommandTree}
use Rattle.lam_scope.specs.Names.{Name, binds}
use Rattle.lam_scope.specs.Numbered.{StandsIfAny}
use Rattle.lam_typing.specs.Answers.{answer}
use Rattle.lam_typing.proofs.Growing.{answer_keep, stands_keep}
use Rattle.lam_query.specs.declared.bound.NameNo.{NameNo}
use Rattle.lam_query.specs.declared.bound.NameNo.TheVariants as binding
use Rattle.lam_query.specs.declared.bound.Bound.{Bound}
use Rattle.lam_query.specs.declared.bound.Meanings.{Meanings}
use Rattle.lam_query.specs.inner.Analysts.{IsBoundAs}
use Rattle.lam_query.specs.inner.Bound.{meaning_of, MeanTheSame, KeepsNumbers, IsBinding, found_over, NumbersStandIn, AllStand, IsSetIn, IsBoundAfter}
use Rattle.lam_query.specs.inner.Entered.{Lookup, name_bound, type_name_bound}
use Rattle.lam_query.specs.inner.Kept.{Found, written_too_large, term_too_large, typed, bound_by}
use Rattle.lam_query.specs.inner.Rows.{unbound, with_entry, StandInFound}

-- ---- nothing is bound

pub unbound_as : (ts : List Typ) (b : Bound) → ((x : Name) → (meaning_of b.names x ≡ None) × (meaning_of b.type_names x ≡ None)) → IsBoundAs unbound unbound ts b
unbound_as ts b none = record { names = λ x. rw (none x).0 refl; types = λ x. rw (none x).1 refl }

-- ---- a table that grows

module _ (ts us : List Typ) (keeps : Keeps ts us) where
  pub answer_kept : (o : Option (Option TyNo)) → IfSome o (StandsIfAny ts) → option_map (answer us) o ≡ option_map (answer ts) o
  answer_kept None stands = refl
  answer_kept (Some number) stands = ap Some (answer_keep ts us number keeps stands)

  number_stands : (o : Option (Option TyNo)) → IfSome o (StandsIfAny ts) → IfSome o (StandsIfAny us)
  number_stands None stands = tt
  number_stands (Some number) stands = stands_keep ts us number keeps stands

pub found_kept : (ts us : List Typ) (m : Meanings) → Keeps ts us → NumbersStandIn ts m → (x : Name) → found_over us m x ≡ found_over ts m x
found_kept ts us m keeps stand x = answer_kept ts us keeps (meaning_of m x) (stand x)

pub stand_kept : (ts us : List Typ) (b : Bound) → Keeps ts us → AllStand ts b → AllStand us b
stand_kept ts us b keeps stand = record {
  names = λ x. number_stands ts us keeps (meaning_of b.names x) (stand.names x);
  type_names = λ x. number_stands ts us keeps (meaning_of b.type_names x) (stand.type_names x);
}

pub bound_as_kept : (names types : Lookup) (ts us : List Typ) (b : Bound) → Keeps ts us → AllStand ts b → IsBoundAs names types ts b → IsBoundAs names types us b
bound_as_kept names types ts us b keeps stand bound = record {
  names = λ x. found_kept ts us b.names keeps stand.names x ∙ bound.names x;
  types = λ x. found_kept ts us b.type_names keeps stand.type_names x ∙ bound.types x;
}

-- ---- names that mean the same

pub same_stand : (ts : List Typ) (old now : Bound) → MeanTheSame old now → AllStand ts old → AllStand ts now
same_stand ts old now same stand = record {
  names = λ x. subst (λ o. IfSome o (StandsIfAny ts)) (sym (same x).0) (stand.names x);
  type_names = λ x. subst (λ o. IfSome o (StandsIfAny ts)) (sym (same x).1) (stand.type_names x);
}

-- a command binds the same behind names that mean the same
pub same_after : (c : CommandTree) (number : Option TyNo) (old numbered now : Bound) → MeanTheSame old numbered → IsBoundAfter c number numbered now → IsBoundAfter c number old now
same_after c number old numbered now same after = record {
  names = λ x. after.names x ∙ ap (λ o. if binds (name_bound c) x then Some number else o) (same x).0;
  type_names = λ x. after.type_names x ∙ ap (λ o. if binds (type_name_bound c) x then Some number else o) (same x).1;
}

-- ---- one command more

set_found : (ts : List Typ) (same : Bool) (number : Option TyNo) (o : Option (Option TyNo))
    → option_map (answer ts) (if same then Some number else o) ≡ (if same then Some (answer ts number) else option_map (answer ts) o)
set_found ts true number o = refl
set_found ts false number o = refl

-- what is found after one more name was set
pub found_after : (ts : List Typ) (b : Option Name) (number : Option TyNo) (old now : Meanings) → IsSetIn b number old now
    → (x : Name) → found_over ts now x ≡ (if binds b x then Some (answer ts number) else found_over ts old x)
found_after ts b number old now set x = ap (option_map (answer ts)) (set x) ∙ set_found ts (binds b x) number (meaning_of old x)

pub bound_as_after : (names types : Lookup) (c : CommandTree) (ts : List Typ) (number : Option TyNo) (old now : Bound)
    → IsBoundAs names types ts old → IsBoundAfter c number old now
    → IsBoundAs (with_entry (name_bound c) (answer ts number) names) (with_entry (type_name_bound c) (answer ts number) types) ts now
bound_as_after names types c ts number old now bound after =
    let put : Option Name → Name → Option (Option Typ) → Option (Option Typ) = λ b x o. if binds b x then Some (answer ts number) else o in
    record {
      names = λ x. found_after ts (name_bound c) number old.names now.names after.names x ∙ ap (put (name_bound c) x) (bound.names x);
      types = λ x. found_after ts (type_name_bound c) number old.type_names now.type_names after.type_names x ∙ ap (put (type_name_bound c) x) (bound.types x);
    }

set_stands : (ts : List Typ) (same : Bool) (number : Option TyNo) (o : Option (Option TyNo)) → StandsIfAny ts number → IfSome o (StandsIfAny ts)
    → IfSome (if same then Some number else o) (StandsIfAny ts)
set_stands ts true number o stands before = stands
set_stands ts false number o stands before = before

numbers_after : (ts : List Typ) (b : Option Name) (number : Option TyNo) (old now : Meanings) → StandsIfAny ts number → NumbersStandIn ts old → IsSetIn b number old now
    → NumbersStandIn ts now
numbers_after ts b number old now stands stand set x =
    subst (λ o. IfSome o (StandsIfAny ts)) (sym (set x)) (set_stands ts (binds b x) number (meaning_of old x) stands (stand x))

pub stand_after : (c : CommandTree) (ts : List Typ) (number : Option TyNo) (old now : Bound) → AllStand ts old → IsBoundAfter c number old now → StandsIfAny ts number
    → AllStand ts now
stand_after c ts number old now stand after stands = record {
  names = numbers_after ts (name_bound c) number old.names now.names stands stand.names after.names;
  type_names = numbers_after ts (type_name_bound c) number old.type_names now.type_names stands stand.type_names after.type_names;
}

-- the number of what a command binds stands for a type, if it is there
pub bound_stands : (ts : List Typ) (f : Found) → StandInFound ts f → StandsIfAny ts (bound_by f)
bound_stands ts (written_too_large s) stand = tt
bound_stands ts (term_too_large s) stand = tt
bound_stands ts (typed t) stand = stand.1

-- ---- names keep their numbers

pub numbers_same : (b : Bound) → KeepsNumbers b b
numbers_same b = record { names = λ x n is. is; type_names = λ x n is. is }

pub numbers_trans : (a b c : Bound) → KeepsNumbers a b → KeepsNumbers b c → KeepsNumbers a c
numbers_trans a b c first second = record {
  names = λ x n is. second.names x n (first.names x n is);
  type_names = λ x n is. second.type_names x n (first.type_names x n is);
}

pub binding_kept : (old now : Bound) (c : CommandTree) (o : Option NameNo) → KeepsNumbers old now → IsBinding old c o → IsBinding now c o
binding_kept old now c None keeps is = is
binding_kept old now c (Some (binding.Name n)) keeps (x, name, no_type, number) = (x, name, no_type, keeps.names x n number)
binding_kept old now c (Some (binding.TypeName n)) keeps (x, no_name, name, number) = (x, no_name, name, keeps.type_names x n number)
