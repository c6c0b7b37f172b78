-- Each body has a kind, and only one.
use Rattle.std.specs.Prelude.{not, is_some, option_and_then, unwrap_or, codes, if◌then◌else◌}
use Rattle.std.proofs.Common.{◌≡◌, List, ℕ, Bool, true, false, Option, Some, None, cond, refl, sym, ◌∙◌, ap, true≢false}
use Rattle.std.specs.Str.{IsUtf8, is_utf8}
use Rattle.std.proofs.lemmas.Str.{IsUtf8-from_is_utf8, is_utf8-from_IsUtf8}
use Rattle.serde_json.specs.Data.{Data, null}
use Rattle.serde_json.specs.Find.{get, as_object, as_str}
use Rattle.serde_json.specs.Read.{read}
use Rattle.lam_rpc.specs.Kind.{Message, request, notice, reply, unreadable, invalid, IsTextOf, HasKind, IsKindOf, message_kind, with_id, with_method, is_id, is_reply}

-- no value is read, or one of this kind
data Read (body : List ℕ) (m : Message) : Type 0 where
  nothing : m ≡ unreadable → ((d : Data) → ¬ (IsTextOf body d)) → Read body m
  something : HasKind body m → Read body m

how_read : (body : List ℕ) (m : Message) → IsKindOf body m → Read body m
how_read body (request id method params) h = something h
how_read body (notice method params) h = something h
how_read body reply h = something h
how_read body unreadable h = nothing refl h
how_read body invalid h = something h

-- a body is the text of one value at most
one_value : (body : List ℕ) (d e : Data) → IsTextOf body d → IsTextOf body e → d ≡ e
one_value body d e p q = let same : Some d ≡ Some e = sym p.reads ∙ q.reads in cc

same_kind : (body : List ℕ) (m n : Message) → Read body m → Read body n → m ≡ n
same_kind body m n (nothing p _) (nothing q _) = p ∙ sym q
same_kind body m n (nothing _ never) (something k) = absurd (never k.value k.text)
same_kind body m n (something k) (nothing _ never) = absurd (never k.value k.text)
same_kind body m n (something k) (something l) = k.kind ∙ (ap message_kind (one_value body k.value l.value k.text l.text) ∙ sym l.kind)

pub one_kind : (body : List ℕ) (m n : Message) → IsKindOf body m → IsKindOf body n → m ≡ n
one_kind body m n h k = same_kind body m n (how_read body m h) (how_read body n k)

-- a message that a value gives is not unreadable
abbrev IsRead : Message → Type 0
IsRead m = m ≡ unreadable → ⊥

chosen : (b : Bool) (m n : Message) → IsRead m → IsRead n → IsRead (cond b m n)
chosen true m n p q = p
chosen false m n p q = q

with_id_read : (id : Option Data) (method : List ℕ) (params : Data) → IsRead (with_id id method params)
with_id_read None method params = λ e. cc
with_id_read (Some id) method params = chosen (is_id id) (request id method params) invalid (λ e. cc) (λ e. cc)

with_method_read : (method : Option (List ℕ)) (d : Data) → IsRead (with_method method d)
with_method_read None d = λ e. cc
with_method_read (Some method) d = with_id_read (get (codes "id") d) method (unwrap_or (get (codes "params") d) null)

kind_of_read : (d : Data) → IsRead (message_kind d)
kind_of_read d =
    let text = option_and_then as_str (get (codes "method") d) in
    chosen (not (is_some (as_object d))) invalid (if is_reply d then reply else with_method text d) (λ e. cc)
    (chosen (is_reply d) reply (with_method text d) (λ e. cc) (with_method_read text d))

of_read : (body : List ℕ) (m : Message) → IsRead m → HasKind body m → IsKindOf body m
of_read body (request id method params) r h = h
of_read body (notice method params) r h = h
of_read body reply r h = h
of_read body unreadable r h = absurd (r refl)
of_read body invalid r h = h

of_value : (body : List ℕ) (found : Option Data) → IsUtf8 body → read body ≡ found → (m : Message) × IsKindOf body m
of_value body None u e = (unreadable, λ d t. let clash : None ≡ Some d = sym e ∙ t.reads in cc)
of_value body (Some d) u e = (message_kind d, of_read body (message_kind d) (kind_of_read d) (record { value = d; text = record { utf8 = u; reads = e }; kind = refl }))

of_bytes : (body : List ℕ) (b : Bool) → is_utf8 body ≡ b → (m : Message) × IsKindOf body m
of_bytes body true e = of_value body (read body) (IsUtf8-from_is_utf8 body e) refl
of_bytes body false e = (unreadable, λ d t. true≢false (sym (is_utf8-from_IsUtf8 body t.utf8) ∙ e))

pub some_kind : (body : List ℕ) → (m : Message) × IsKindOf body m
some_kind body = of_bytes body (is_utf8 body) refl
