use Rattle.std.proofs.Common.{◌≡◌, ◌⊎◌, [], map, ap, ◌∙◌}
use Rattle.clap.specs.Kinds.{IsAmong}
use Rattle.clap.specs.Values.{kind_of}
use Rattle.clap.specs.declared.error.kind.ErrorKind.TheVariants.{OutOfMemory}
use Rattle.lam_server.proofs.ReadWords.{chooses, finds_faults, tells_fault}
use Rattle.lam_server.specs.CommandLine.{dialect_named}
use Rattle.lam_server.proofs.args.read_args.Goals as goal

pub returns-in-Ok-try_get_matches_from : goal.returns-in-Ok-try_get_matches_from
returns-in-Ok-try_get_matches_from c = (
  finds_faults (λ kinds. kinds ≡ []) c.in-Ok.command (map (λ word. word.now) c.named.result.now) _ c.in-Ok.ensures c.named.ensures c.in-Ok-try_get_matches_from.ensures.kinds,
  chooses c.in-Ok.command (map (λ word. word.now) c.named.result.now) _ _ c.new.result c.in-Ok.ensures c.named.ensures c.in-Ok-try_get_matches_from.ensures.matches
      (c.new.ensures ∙ c.chosen.ensures ∙ ap dialect_named c.get_str.ensures),
)

pub returns-in-Err : goal.returns-in-Err
returns-in-Err c =
    tells_fault _ (kind_of c.in-Err.error) c.fault_of.result c.fault_of.ensures
    (finds_faults (λ kinds. (kind_of c.in-Err.error ≡ OutOfMemory) ⊎ IsAmong (kind_of c.in-Err.error) kinds) c.in-Ok.command (map (λ word. word.now) c.named.result.now) _ c.in-Ok.ensures c.named.ensures
    c.in-Err.ensures.kinds)
