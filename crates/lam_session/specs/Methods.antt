-- The supported methods, by name; any other is unknown.
use Rattle.std.specs.Prelude.{ℕ, List, [], ◌∷◌, codes, if◌then◌else◌}
use Rattle.std.specs.Str.{bytes_eq}
use Rattle.lam_session.specs.declared.questions.Question.TheVariants as question
use Rattle.lam_session.specs.declared.methods.RequestMethod.{RequestMethod}
use Rattle.lam_session.specs.declared.methods.RequestMethod.TheVariants as request
use Rattle.lam_session.specs.declared.methods.NoticeMethod.{NoticeMethod}
use Rattle.lam_session.specs.declared.methods.NoticeMethod.TheVariants as notice

-- the method of the first pair with this name, or `unknown` if there is none
abbrev pub method_named : {M : Type 0} → M → List ℕ → List (List ℕ × M) → M
method_named unknown name [] = unknown
method_named unknown name (p ∷ ps) = if bytes_eq name p.0 then p.1 else method_named unknown name ps

-- the requests by name
abbrev pub requests : List (List ℕ × RequestMethod)
requests =
    (codes "initialize", request.Initialize)
    ∷ (codes "shutdown", request.Shutdown)
    ∷ (codes "textDocument/hover", request.Ask question.Hover)
    ∷ (codes "fullsub/derivation", request.Ask question.Derivation)
    ∷ (codes "textDocument/completion", request.Ask question.Completion)
    ∷ (codes "textDocument/definition", request.Ask question.Definition)
    ∷ (codes "textDocument/references", request.Ask question.References)
    ∷ (codes "textDocument/rename", request.Ask question.Rename)
    ∷ []

-- the request with this name
abbrev pub request_method : List ℕ → RequestMethod
request_method name = method_named request.Unknown name requests

-- the notifications by name
abbrev pub notices : List (List ℕ × NoticeMethod)
notices =
    (codes "exit", notice.Exit)
    ∷ (codes "textDocument/didOpen", notice.DidOpen)
    ∷ (codes "textDocument/didChange", notice.DidChange)
    ∷ (codes "textDocument/didClose", notice.DidClose)
    ∷ []

-- the notification with this name
abbrev pub notice_method : List ℕ → NoticeMethod
notice_method name = method_named notice.Unknown name notices
