-- Which names the methods of a table have, so that no proof goes through a table row by row when a method is added.
use Rattle.std.proofs.Common.{◌≡◌, ℕ, List, [], ◌∷◌, Bool, true, false, not, cond, ◌&&◌, refl, sym, subst}
use Rattle.std.proofs.lemmas.Bool.{and_parts}
use Rattle.std.proofs.lemmas.Slice.Eq.{bytes_eq-Decides}
use Rattle.std.specs.Str.{bytes_eq}
use Rattle.lam_session.specs.declared.methods.RequestMethod.{RequestMethod}
use Rattle.lam_session.specs.declared.methods.RequestMethod.TheVariants as request
use Rattle.lam_session.specs.declared.methods.NoticeMethod.{NoticeMethod}
use Rattle.lam_session.specs.declared.methods.NoticeMethod.TheVariants as notice
use Rattle.lam_session.specs.Methods.{method_named, requests, request_method, notices, notice_method}
use Rattle.lam_session.specs.Runs.{is_lifecycle}

module _ {M : Type 0} (test : List ℕ → M → Bool) where
  -- each pair of the table passes the test
  abbrev all_pass : List (List ℕ × M) → Bool
  all_pass [] = true
  all_pass (p ∷ ps) = test p.0 p.1 && all_pass ps

  passes_at : (b : Bool) (name known : List ℕ) (method rest : M) → (b ≡ true → name ≡ known) → test known method ≡ true → test name rest ≡ true → test name (cond b method rest) ≡ true
  passes_at true name known method rest same here later = subst (λ (n : List ℕ). test n method ≡ true) (sym (same refl)) here
  passes_at false name known method rest same here later = later

  -- if each pair of the table passes the test, so do a name and the method that it means
  passes : (unknown : M) (name : List ℕ) (table : List (List ℕ × M)) → test name unknown ≡ true → all_pass table ≡ true → test name (method_named unknown name table) ≡ true
  passes unknown name [] last all = last
  passes unknown name (p ∷ ps) last all =
      let parts = and_parts (test p.0 p.1) (all_pass ps) all in
      passes_at (bytes_eq name p.0) name p.0 p.1 (method_named unknown name ps) (bytes_eq-Decides name p.0).0 parts.0 (passes unknown name ps last parts.1)

-- a request of the lifecycle has the name of one, and a question has not
abbrev pub fits_request : List ℕ → RequestMethod → Bool
fits_request name request.Initialize = is_lifecycle name
fits_request name request.Shutdown = is_lifecycle name
fits_request name (request.Ask question) = not (is_lifecycle name)
fits_request name request.Unknown = true

pub request_fits : (name : List ℕ) → fits_request name (request_method name) ≡ true
request_fits name = passes fits_request request.Unknown name requests refl refl

-- a notice of the lifecycle has the name of one, and a notice about a document has not
abbrev pub fits_notice : List ℕ → NoticeMethod → Bool
fits_notice name notice.Exit = is_lifecycle name
fits_notice name notice.Unknown = true
fits_notice name _ = not (is_lifecycle name)

pub notice_fits : (name : List ℕ) → fits_notice name (notice_method name) ≡ true
notice_fits name = passes fits_notice notice.Unknown name notices refl refl
