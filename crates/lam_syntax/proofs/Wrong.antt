-- Where a list of tokens goes wrong: what is before the fault can be completed, and nothing completes what goes on through it.
use Rattle.std.proofs.Common.{◌≡◌, List, [], ◌∷◌, ◌++◌, refl, ap, ◌∙◌, subst}
use Rattle.std.specs.Prelude.{Some, None}
use Rattle.lam_token.specs.declared.kind.Kind.{Kind}
use Rattle.lam_token.specs.declared.kind.Kind.TheVariants as kind
use Rattle.lam_token.specs.declared.span.Span.{Span}
use Rattle.lam_token.specs.Lexeme.{Lexeme, lexeme}
use Rattle.lam_syntax.specs.Trees.{Word, TypeTree, TermTree, CommandTree, evaluation, definition, declaration, abbreviation}
use Rattle.lam_syntax.specs.Grammar.{Spells, Begins}
use Rattle.lam_syntax.specs.inner.Run.{Purpose, for_lambda, for_let, for_letrec, InTerm, of_evaluation, of_definition, in_lambda, in_condition, in_then, in_else, in_let, in_let_body, in_letrec, in_letrec_body, in_parens, in_field, InPath, as_head, as_operand, as_argument, InType, of_declaration, of_abbreviation, of_lambda, of_letrec, of_ascription, right_of, in_type_parens, in_type_field, State, need_command, after_name, after_type_name, need_type, after_atype, need_type_field, next_type_field, after_type_label, need_binder, after_binder, need_term, need_path, after_atom, after_asc, need_label, need_field, next_field, after_label, Next, go, done, stop, step, ended_type, ended_asc, ended_term, applied, outside, tree, fault, run, look, went, at_last}
use Rattle.lam_syntax.proofs.Ends.{TypeEnds, TermEnds, asc_type, path_asc, term_path, run-look, type_ended, atom_ended, path_ended, app_ended}
use Rattle.lam_syntax.proofs.Complete.{complete}
use Rattle.lam_syntax.proofs.Sound.{sound}

-- some place, and a token of each kind there
nowhere : Span
nowhere = record { start = 0; end = 0 }

some : Kind → Lexeme
some k = lexeme k [] nowhere

-- tokens before which a term may end, and which complete what is begun around it
record Closing (k : InTerm) : Type 0 where
  more : List Lexeme
  ends : TermEnds more
  closes : (t : TermTree) → (c : CommandTree) × (look more (λ o. ended_term o t k) ≡ tree c)

record ClosingType (k : InType) : Type 0 where
  more : List Lexeme
  ends : TypeEnds more
  closes : (t : TypeTree) → (c : CommandTree) × (look more (λ o. ended_type o t k) ≡ tree c)

-- a path that ends before such tokens
path_last : (k : InPath) (m : List Lexeme) → TermEnds m → (t : TermTree) → look m (λ o. ended_asc o t k) ≡ look m (λ o. ended_term o (applied t k) (outside k))
path_last k m ends t = path_ended m t k (term_path m ends) ∙ app_ended m (applied t k) (outside k) ends

atom_last : (k : InPath) (m : List Lexeme) → TermEnds m → (t : TermTree) → run m (after_atom t k) ≡ look m (λ o. ended_term o (applied t k) (outside k))
atom_last k m ends t = atom_ended m t k (path_asc m (term_path m ends)) ∙ path_last k m ends t

-- so a path that ends with an atom is completed by them
path_closes : (k : InPath) → (r : Closing (outside k)) → (t : TermTree) → (c : CommandTree) × (run r.more (after_atom t k) ≡ tree c)
path_closes k r t = let found = r.closes (applied t k) in (found.0, atom_last k r.more r.ends t ∙ found.1)

head_closes : (k : InTerm) → (r : Closing k) → (t : TermTree) → (c : CommandTree) × (run r.more (after_atom t (as_head k)) ≡ tree c)
head_closes k r t = path_closes (as_head k) r t

type_closes : (k : InType) → (r : ClosingType k) → (t : TypeTree) → (c : CommandTree) × (run r.more (after_atype t k) ≡ tree c)
type_closes k r t = let found = r.closes t in (found.0, type_ended r.more t k r.ends ∙ found.1)

mutual
  unfolding some nowhere

  close_term : (k : InTerm) → Closing k
  close_term of_evaluation = record { more = []; ends = tt; closes = λ t. (evaluation t, refl) }
  close_term (of_definition x) = record { more = []; ends = tt; closes = λ t. (definition x t, refl) }
  close_term (in_lambda s b u k) = let r = close_term k in record { more = r.more; ends = r.ends; closes = λ t. r.closes _ }
  close_term (in_condition s k) =
      let r = close_term k in
      record { more = some kind.Then ∷ some kind.True ∷ some kind.Else ∷ some kind.True ∷ r.more; ends = tt; closes = λ t. head_closes (in_else s t _ k) (record { more = r.more; ends = r.ends; closes = λ e. r.closes _ }) _ }
  close_term (in_then s t k) =
      let r = close_term k in
      record { more = some kind.Else ∷ some kind.True ∷ r.more; ends = tt; closes = λ a. head_closes (in_else s t a k) (record { more = r.more; ends = r.ends; closes = λ e. r.closes _ }) _ }
  close_term (in_else s t a k) = let r = close_term k in record { more = r.more; ends = r.ends; closes = λ e. r.closes _ }
  close_term (in_let s b k) =
      let r = close_term k in
      record { more = some kind.In ∷ some kind.True ∷ r.more; ends = tt; closes = λ t. head_closes (in_let_body s b t k) (record { more = r.more; ends = r.ends; closes = λ u. r.closes _ }) _ }
  close_term (in_let_body s b t k) = let r = close_term k in record { more = r.more; ends = r.ends; closes = λ u. r.closes _ }
  close_term (in_letrec s b y k) =
      let r = close_term k in
      record { more = some kind.In ∷ some kind.True ∷ r.more; ends = tt; closes = λ t. head_closes (in_letrec_body s b y t k) (record { more = r.more; ends = r.ends; closes = λ u. r.closes _ }) _ }
  close_term (in_letrec_body s b y t k) = let r = close_term k in record { more = r.more; ends = r.ends; closes = λ u. r.closes _ }
  close_term (in_parens s k) =
      let r = close_path k in
      record { more = some kind.CloseParen ∷ r.more; ends = tt; closes = λ t. path_closes k r _ }
  close_term (in_field s before l k) =
      let r = close_path k in
      record { more = some kind.CloseBrace ∷ r.more; ends = tt; closes = λ t. path_closes k r _ }

  close_path : (k : InPath) → Closing (outside k)
  close_path (as_head k) = close_term k
  close_path (as_operand s p k) = close_term k
  close_path (as_argument f k) = close_term k

close_type : (k : InType) → ClosingType k
unfolding some nowhere close_term
close_type (of_declaration x) = record { more = []; ends = tt; closes = λ t. (declaration x t, refl) }
close_type (of_abbreviation x) = record { more = []; ends = tt; closes = λ t. (abbreviation x t, refl) }
close_type (of_lambda s b k) =
    record { more = some kind.Dot ∷ some kind.True ∷ (close_term k).more; ends = tt; closes = λ t. head_closes (in_lambda s b t k) (close_term (in_lambda s b t k)) _ }
close_type (of_letrec s b k) =
    record { more = some kind.Equals ∷ some kind.True ∷ some kind.In ∷ some kind.True ∷ (close_term k).more; ends = tt; closes = λ t. head_closes (in_letrec_body s b t _ k) (close_term (in_letrec_body s b t _ k)) _ }
close_type (of_ascription t k) =
    let r = close_path k in
    record { more = r.more; ends = asc_type r.more (path_asc r.more (term_path r.more r.ends)); closes = λ u. let found = r.closes (applied _ k) in (found.0, path_last k r.more r.ends _ ∙ found.1) }
close_type (right_of a k) = let r = close_type k in record { more = r.more; ends = r.ends; closes = λ t. r.closes _ }
close_type (in_type_parens s k) =
    let r = close_type k in
    record { more = some kind.CloseParen ∷ r.more; ends = tt; closes = λ t. type_closes k r _ }
close_type (in_type_field s before l k) =
    let r = close_type k in
    record { more = some kind.CloseBrace ∷ r.more; ends = tt; closes = λ t. type_closes k r _ }

-- tokens that complete what is begun in a state
abbrev Closed : State → Type 0
Closed s = (more : List Lexeme) × (c : CommandTree) × (run more s ≡ tree c)

need_type_closed : (k : InType) → Closed (need_type k)
unfolding some nowhere
need_type_closed k = let r = close_type k in let found = type_closes k r _ in (some kind.NatType ∷ r.more, found.0, found.1)

need_term_closed : (k : InTerm) → Closed (need_term k)
unfolding some nowhere
need_term_closed k = let r = close_term k in let found = head_closes k r _ in (some kind.True ∷ r.more, found.0, found.1)

after_binder_closed : (p : Purpose) (s : Span) (b : _) (k : InTerm) → Closed (after_binder p s b k)
unfolding some nowhere
after_binder_closed for_lambda s b k = let r = need_type_closed (of_lambda s b k) in (some kind.Colon ∷ r.0, r.1, r.2)
after_binder_closed for_let s b k = let r = need_term_closed (in_let s b k) in (some kind.Equals ∷ r.0, r.1, r.2)
after_binder_closed for_letrec s b k = let r = need_type_closed (of_letrec s b k) in (some kind.Colon ∷ r.0, r.1, r.2)

after_type_label_closed : (s : Span) (before : _) (l : Word) (k : InType) → Closed (after_type_label s before l k)
unfolding some nowhere
after_type_label_closed s before l k = let r = need_type_closed (in_type_field s before l k) in (some kind.Colon ∷ r.0, r.1, r.2)

after_label_closed : (s : Span) (before : _) (l : Word) (k : InPath) → Closed (after_label s before l k)
unfolding some nowhere
after_label_closed s before l k = let r = need_term_closed (in_field s before l k) in (some kind.Equals ∷ r.0, r.1, r.2)

after_asc_closed : (t : TermTree) (k : InPath) → Closed (after_asc t k)
after_asc_closed t k =
    let r = close_path k in
    let found = r.closes (applied t k) in
    (r.more, found.0, run-look r.more (after_asc t k) ∙ path_last k r.more r.ends t ∙ found.1)

close_state : (s : State) → Closed s
unfolding some nowhere
close_state need_command = (some kind.Name ∷ [], evaluation _, refl)
close_state (after_name n) = ([], evaluation _, refl)
close_state (after_type_name n) = (some kind.Equals ∷ some kind.NatType ∷ [], abbreviation n _, refl)
close_state (need_type k) = need_type_closed k
close_state (after_atype t k) = let r = close_type k in let found = type_closes k r t in (r.more, found.0, found.1)
close_state (need_type_field s k) = let r = close_type k in let found = type_closes k r _ in (some kind.CloseBrace ∷ r.more, found.0, found.1)
close_state (next_type_field s before k) = let r = after_type_label_closed s before _ k in (some kind.Name ∷ r.0, r.1, r.2)
close_state (after_type_label s before l k) = after_type_label_closed s before l k
close_state (need_binder p s k) = let r = after_binder_closed p s _ k in (some kind.Name ∷ r.0, r.1, r.2)
close_state (after_binder p s b k) = after_binder_closed p s b k
close_state (need_term k) = need_term_closed k
close_state (need_path k) = let r = close_path k in let found = path_closes k r _ in (some kind.True ∷ r.more, found.0, found.1)
close_state (after_atom t k) = let r = close_path k in let found = path_closes k r t in (r.more, found.0, found.1)
close_state (after_asc t k) = after_asc_closed t k
close_state (need_label t k) = let r = after_asc_closed _ k in (some kind.Name ∷ r.0, r.1, r.2)
close_state (need_field s k) = let r = close_path k in let found = path_closes k r _ in (some kind.CloseBrace ∷ r.more, found.0, found.1)
close_state (next_field s before k) = let r = after_label_closed s before _ k in (some kind.Name ∷ r.0, r.1, r.2)
close_state (after_label s before l k) = after_label_closed s before l k

-- the tokens that are left at a fault
record FaultAt (s : State) (ts left : List Lexeme) : Type 0 where
  front : List Lexeme
  cut : ts ≡ front ++ left
  stands : (t : Lexeme) (after : List Lexeme) → left ≡ t ∷ after → (more : List Lexeme) → run (front ++ t ∷ more) s ≡ fault (t ∷ more)
  goes_on : (more : List Lexeme) × (c : CommandTree) × (run (front ++ more) s ≡ tree c)

-- a fault at the end
fault_at_end : (s : State) (left : List Lexeme) (n : Next) → step s None ≡ n → at_last n ≡ fault left → FaultAt s [] left
fault_at_end s left (go r) is h = ended
  where
    ended : FaultAt s [] left
    ended = let none : [] ≡ left = cc in record { front = []; cut = none; stands = λ t after same. absurd cc; goes_on = close_state s }
fault_at_end s left (done c) is h = absurd cc
fault_at_end s left stop is h = ended
  where
    ended : FaultAt s [] left
    ended = let none : [] ≡ left = cc in record { front = []; cut = none; stands = λ t after same. absurd cc; goes_on = close_state s }

-- a fault at the first token
fault_here : (t : Lexeme) (ts : List Lexeme) (s : State) (left : List Lexeme) (n : Next) → step s (Some t) ≡ n → ((more : List Lexeme) → went (t ∷ more) (run more) n ≡ fault (t ∷ more)) → t ∷ ts ≡ left → FaultAt s (t ∷ ts) left
fault_here t ts s left n is faults all = record {
  front = [];
  cut = all;
  stands = λ u after same more.
      let head : t ≡ u = cc in
      subst (λ v. run (v ∷ more) s ≡ fault (v ∷ more)) head (ap (went (t ∷ more) (run more)) is ∙ faults more);
  goes_on = close_state s;
}

-- a fault behind the first token, or at it
fault_behind : (t : Lexeme) (ts : List Lexeme) (s : State) (left : List Lexeme) (n : Next) → step s (Some t) ≡ n → ((r : State) → run ts r ≡ fault left → FaultAt r ts left) → went (t ∷ ts) (run ts) n ≡ fault left → FaultAt s (t ∷ ts) left
fault_behind t ts s left (go r) is behind h =
    let found = behind r h in
    record {
      front = t ∷ found.front;
      cut = ap (λ l. t ∷ l) found.cut;
      stands = λ u after same more. ap (went (t ∷ found.front ++ u ∷ more) (run (found.front ++ u ∷ more))) is ∙ found.stands u after same more;
      goes_on = (found.goes_on.0, found.goes_on.1, ap (went (t ∷ found.front ++ found.goes_on.0) (run (found.front ++ found.goes_on.0))) is ∙ found.goes_on.2);
    }
fault_behind t ts s left (done c) is behind h = fault_here t ts s left (done c) is (λ more. refl) cc
fault_behind t ts s left stop is behind h = fault_here t ts s left stop is (λ more. refl) cc

fault_at : (ts : List Lexeme) (s : State) (left : List Lexeme) → run ts s ≡ fault left → FaultAt s ts left
fault_at [] s left h = fault_at_end s left (step s None) refl h
fault_at (t ∷ ts) s left h = fault_behind t ts s left (step s (Some t)) refl (λ r g. fault_at ts r left g) h

-- where a command goes wrong: the tokens before the fault begin one, those through it begin none
pub record GoesWrong (ts left : List Lexeme) : Type 0 where
  pub front : List Lexeme
  pub cut : ts ≡ front ++ left
  pub begins : Begins front
  pub none : (t : Lexeme) (after : List Lexeme) → left ≡ t ∷ after → (more : List Lexeme) (c : CommandTree) → Spells (front ++ t ∷ more) c → ⊥

pub goes_wrong : (ts left : List Lexeme) → run ts need_command ≡ fault left → GoesWrong ts left
goes_wrong ts left h =
    let at = fault_at ts need_command left h in
    record {
      front = at.front;
      cut = at.cut;
      begins = (at.goes_on.0, at.goes_on.1, sound (at.front ++ at.goes_on.0) at.goes_on.1 at.goes_on.2);
      none = λ t after same more c spells. let read = complete spells in let stands = at.stands t after same more in absurd cc;
    }
