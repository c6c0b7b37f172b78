-- Rows, and other lists of options, in which nothing is too large.
use Rattle.std.proofs.Common.{◌≡◌, List, [], ◌∷◌, ◌++◌, false, Option, Some, None, refl, ap, ◌∙◌}
use Rattle.std.specs.Option.{option_or, is_some}
use Rattle.lam_token.specs.declared.span.Span.{Span}
use Rattle.lam_query.specs.inner.Kept.{Found, Row, found_in, first_in, first_large, large_written_type, large_term}

-- ---- the first of two

pub none_of_both : (x y : Option Span) → option_or x y ≡ None → (x ≡ None) × (y ≡ None)
none_of_both None y none = (refl, none)
none_of_both (Some s) y none = absurd cc

pub none_first : (x y : Option Span) → option_or x y ≡ None → x ≡ None
none_first x y none = (none_of_both x y none).0

pub none_second : (x y : Option Span) → option_or x y ≡ None → y ≡ None
none_second x y none = (none_of_both x y none).1

pub none_from : (x : Option Span) → is_some x ≡ false → x ≡ None
none_from None is = refl
none_from (Some s) is = absurd cc

-- ---- rows

-- those in front of others
pub none_ahead : (f : Option Found → Option Span) (front behind : List Row) → first_in f (front ++ behind) ≡ None → first_in f front ≡ None
none_ahead f [] behind none = refl
none_ahead f (r ∷ front) behind none =
    let both = none_of_both (f (found_in r)) (first_in f (front ++ behind)) none in
    ap (λ x. option_or x (first_in f front)) both.0 ∙ none_ahead f front behind both.1

-- one of them
pub none_there : (f : Option Found → Option Span) (front : List Row) (r : Row) (behind : List Row) → first_in f (front ++ r ∷ behind) ≡ None → f (found_in r) ≡ None
none_there f [] r behind none = none_first (f (found_in r)) (first_in f behind) none
none_there f (s ∷ front) r behind none = none_there f front r behind (none_second (f (found_in s)) (first_in f (front ++ r ∷ behind)) none)

pub none_large_ahead : (front behind : List Row) → first_large (front ++ behind) ≡ None → first_large front ≡ None
none_large_ahead front behind none =
    let both = none_of_both (first_in large_written_type (front ++ behind)) (first_in large_term (front ++ behind)) none in
    ap (λ x. option_or x (first_in large_term front)) (none_ahead large_written_type front behind both.0) ∙ none_ahead large_term front behind both.1
