-- The texts of the messages with a list, piece by piece.
use Rattle.std.proofs.Common.{◌≡◌, ℕ, ℤ, ◌+◌, ◌<◌, List, [], ◌∷◌, ◌++◌, length, drop, map, get_or, drop-cons, add-one, Bool, true, false, ◌||◌, Option, Some, codes, refl, sym, ap, ◌∙◌, append_assoc}
use Rattle.serde_json.specs.Data.{Data, Items, number, string, array}
use Rattle.serde_json.specs.Find.{of_integer}
use Rattle.serde_json.specs.View.{items_of}
use Rattle.serde_json.specs.Written.{has_float, compact_text, items_text, members_text}
use Rattle.serde_json.proofs.OnLiterals.{serde_json_on_literals}
use Rattle.lam_rpc.specs.Reply.{result_reply}
use Rattle.lam_session.specs.Renames.{edits_in}
use Rattle.lam_session.specs.Sync.{published, version_member}

-- ---- a list of values

-- the texts of values, this separator before the first and commas before the others, and the closing bracket
abbrev pub text_behind : List ℕ → List Data → List ℕ
text_behind separator [] = 93 ∷ []
text_behind separator (d ∷ ds) = separator ++ (compact_text d ++ items_text true (items_of ds))

behind_comma : (ds : List Data) → text_behind (44 ∷ []) ds ≡ items_text true (items_of ds)
behind_comma [] = refl
behind_comma (d ∷ ds) = refl

-- one more value
pub text_more : {A : Type 0} (shown : A → Data) (text separator one : List ℕ) (xs : List A) (i : ℕ) (x : A) → i < length xs → one ≡ compact_text (shown (get_or xs i x))
    → ((text ++ separator) ++ one) ++ text_behind (44 ∷ []) (map shown (drop (i + 1) xs)) ≡ text ++ text_behind separator (map shown (drop i xs))
text_more shown text separator one xs i x inside is =
    ap (λ l. ((text ++ separator) ++ one) ++ l) (behind_comma (map shown (drop (i + 1) xs)))
    ∙ append_assoc (text ++ separator) one (items_text true (items_of (map shown (drop (i + 1) xs))))
    ∙ append_assoc text separator (one ++ items_text true (items_of (map shown (drop (i + 1) xs))))
    ∙ ap (λ l. text ++ (separator ++ (l ++ items_text true (items_of (map shown (drop (i + 1) xs)))))) is
    ∙ ap (λ n. text ++ text_behind separator (map shown (get_or xs i x ∷ drop n xs))) (add-one i)
    ∙ ap (λ l. text ++ text_behind separator (map shown l)) (sym (drop-cons xs i x inside))

-- ---- the notification

-- the text before its list of diagnostics
abbrev pub front : List ℕ
front = codes "{\"jsonrpc\":\"2.0\",\"method\":\"textDocument/publishDiagnostics\",\"params\":{\"diagnostics\":["

grouped : (front faults key uri version end : List ℕ) → ((((front ++ faults) ++ key) ++ uri) ++ version) ++ end ≡ front ++ ((faults ++ (key ++ (uri ++ version))) ++ end)
grouped front faults key uri version end = simp append_assoc refl

-- the text of a list, then the rest of the params and of the notification
pub published_text : (uri : List ℕ) (version : Option ℤ) (faults : Items) (text : List ℕ)
    → text ++ 125 ∷ [] ≡ (((front ++ items_text false faults) ++ codes ",\"uri\":") ++ compact_text (string uri)) ++ members_text true (version_member version)
    → text ++ 125 ∷ 125 ∷ [] ≡ compact_text (published uri version faults)
unfolding serde_json_on_literals
published_text uri version faults text is =
    sym (append_assoc text (125 ∷ []) (125 ∷ []))
    ∙ ap (λ l. l ++ 125 ∷ []) is
    ∙ grouped front (items_text false faults) (codes ",\"uri\":") (compact_text (string uri)) (members_text true (version_member version)) (125 ∷ [])

-- the member for the version, written in two pieces
pub version_text : (old middle new : List ℕ) (version : ℤ) (d : Data) → middle ≡ old ++ codes ",\"version\":" → d ≡ number (of_integer version)
    → new ≡ middle ++ compact_text d → new ++ 125 ∷ [] ≡ old ++ members_text true (version_member (Some version))
unfolding serde_json_on_literals
version_text old middle new version d key value is =
    ap (λ l. l ++ 125 ∷ []) (is ∙ ap (λ l. l ++ compact_text d) key ∙ ap (λ v. (old ++ codes ",\"version\":") ++ compact_text v) value)
    ∙ append_assoc (old ++ codes ",\"version\":") (compact_text (number (of_integer version))) (125 ∷ [])
    ∙ append_assoc old (codes ",\"version\":") (compact_text (number (of_integer version)) ++ 125 ∷ [])

-- ---- a reply

-- without floats in the reply there is none in its id
id_floatless : (a b : Bool) → a || b ≡ false → a ≡ false
id_floatless true b is = is
id_floatless false b is = refl

four : (front id middle rest : List ℕ) → ((front ++ id) ++ middle) ++ rest ≡ front ++ (id ++ (middle ++ rest))
four front id middle rest = simp append_assoc refl

-- the text before the result, then the result and the closing brace
pub reply_text : (id answer : Data) (written text : List ℕ) → (has_float id ≡ false → written ≡ compact_text id)
    → text ≡ (codes "{\"id\":" ++ written) ++ codes ",\"jsonrpc\":\"2.0\",\"result\":" → has_float (result_reply id answer) ≡ false
    → text ++ (compact_text answer ++ 125 ∷ []) ≡ compact_text (result_reply id answer)
unfolding serde_json_on_literals
reply_text id answer written text id_is is plain =
    ap (λ l. l ++ (compact_text answer ++ 125 ∷ [])) is
    ∙ four (codes "{\"id\":") written (codes ",\"jsonrpc\":\"2.0\",\"result\":") (compact_text answer ++ 125 ∷ [])
    ∙ ap (λ l. codes "{\"id\":" ++ (l ++ (codes ",\"jsonrpc\":\"2.0\",\"result\":" ++ (compact_text answer ++ 125 ∷ [])))) (id_is (id_floatless (has_float id) _ plain))

listed : (front start items end : List ℕ) → ((front ++ start) ++ items) ++ end ≡ front ++ ((start ++ items) ++ end)
listed front start items end = simp append_assoc refl

-- a reply whose result is a list
pub list_text : (front text : List ℕ) (items : Items) → text ≡ (front ++ codes "[") ++ items_text false items
    → text ++ codes "}" ≡ front ++ (compact_text (array items) ++ 125 ∷ [])
list_text front text items is = ap (λ l. l ++ codes "}") is ∙ listed front (codes "[") (items_text false items) (codes "}")

braced : (front start uri middle items one two three : List ℕ)
    → ((((front ++ start) ++ uri) ++ middle) ++ items) ++ (one ++ (two ++ three)) ≡ front ++ ((start ++ ((uri ++ (middle ++ (items ++ one))) ++ two)) ++ three)
braced front start uri middle items one two three = simp append_assoc refl

-- a reply whose result is a list of edits
pub edits_text : (front text uri : List ℕ) (edits : Items) → text ≡ (((front ++ codes "{\"changes\":{") ++ compact_text (string uri)) ++ codes ":[") ++ items_text false edits
    → text ++ codes "}}}" ≡ front ++ (compact_text (edits_in uri edits) ++ 125 ∷ [])
unfolding serde_json_on_literals
edits_text front text uri edits is =
    ap (λ l. l ++ codes "}}}") is
    ∙ braced front (codes "{\"changes\":{") (compact_text (string uri)) (codes ":[") (items_text false edits) (125 ∷ []) (125 ∷ []) (125 ∷ [])
