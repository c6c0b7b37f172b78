-- A form over the numbers of a table still stands for the same term when the table has grown, so what a later walk finds of it is found of that term.
use Rattle.std.proofs.Common.{ℕ, List, Option, Some, None, subst}
use Rattle.std.specs.declared.alloc.Global.{Global}
use Rattle.std.proofs.Common.{String, Bool, ◌<◌, length}
use Rattle.lam_rules.specs.Types.{Typ, IsWellFormed}
use Rattle.lam_rules.specs.Typing.{IsWellFormedEntry}
use Rattle.lam_rules.specs.Numbers.{Keeps, type_at}
use Rattle.lam_rules.specs.declared.numbers.TyNo.{TyNo}
use Rattle.lam_scope.specs.InternedViews.{interned_term, interned_terms, StandIn, StandInTerms}
use Rattle.lam_scope.specs.declared.interned.InternedTerm.{InternedTerm}
use Rattle.lam_scope.specs.declared.interned.InternedField.{InternedField}
use Rattle.lam_scope.proofs.InternedTerms.{kept, kept_terms}
use Rattle.lam_typing.specs.Answers.{answer, StandsWhereFound}
use Rattle.lam_typing.specs.Walk.{WalkedOver, HasStopped, HasStoppedInFields, FieldsWalked, HasWalkedFields}
use Rattle.lam_typing.specs.declared.checker.TypeChecker.{TypeChecker}
use Rattle.lam_typing.specs.declared.walking.Stop.{Stop}
use Rattle.std.proofs.Common.{Result}

module _ {old now : List Typ} (e : InternedTerm) (keeps : Keeps old now) (stand : StandIn old e) where
  pub still_stand : StandIn now e
  still_stand = (kept old now e keeps stand).1

  pub still_walked : {w u : TypeChecker} {found : Option TyNo} → WalkedOver w u (interned_term now e) found → WalkedOver w u (interned_term old e) found
  still_walked {w = w} {u = u} {found = found} over = subst (λ x. WalkedOver w u x found) (kept old now e keeps stand).0 over

  pub still_stopped : (stop : Stop) (w u : TypeChecker) → HasStopped stop w u (interned_term now e) → HasStopped stop w u (interned_term old e)
  still_stopped stop w u stopped = subst (HasStopped stop w u) (kept old now e keeps stand).0 stopped

-- the same for the terms of a record

module _ {old now : List Typ} (fs : List InternedField) (keeps : Keeps old now) (stand : StandInTerms old fs) where
  pub fields_still_stand : StandInTerms now fs
  fields_still_stand = (kept_terms old now fs keeps stand).1

  pub fields_still_walked : {w u : TypeChecker} {before after : List (String Global × TyNo)} {all : Bool}
      → FieldsWalked w u (interned_terms now fs) before after all → FieldsWalked w u (interned_terms old fs) before after all
  fields_still_walked {w = w} {u = u} {before = before} {after = after} {all = all} over =
      subst (λ x. FieldsWalked w u x before after all) (kept_terms old now fs keeps stand).0 over

  pub fields_still_stopped : (stop : Stop) (w u : TypeChecker) → HasStoppedInFields stop w u (interned_terms now fs) → HasStoppedInFields stop w u (interned_terms old fs)
  fields_still_stopped stop w u stopped = subst (HasStoppedInFields stop w u) (kept_terms old now fs keeps stand).0 stopped

  pub fields_still_either : (r : Result Bool Stop) (w u : TypeChecker) (before after : List (String Global × TyNo))
      → HasWalkedFields r w u (interned_terms now fs) before after → HasWalkedFields r w u (interned_terms old fs) before after
  fields_still_either r w u before after walked =
      subst (λ x. HasWalkedFields r w u x before after) (kept_terms old now fs keeps stand).0 walked

-- what is written has distinct labels, as all types of the table have
pub written_differs : (ts : List Typ) (o : Option TyNo) → ((i : ℕ) → i < length ts → IsWellFormed (type_at ts i)) → StandsWhereFound ts o → IsWellFormedEntry (answer ts o)
written_differs ts None each stands = tt
written_differs ts (Some number) each stands = each number.index stands
