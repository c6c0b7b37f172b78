use Rattle.std.proofs.Common.{rules}
use Rattle.lam_query.specs.Renames.{IsChanged}
use Rattle.lam_query.proofs.RenamedRows.{HasRow, no_name, unparsed, untouched, unbound_row, renamed_here, refused_here, row_renamed, row_wrong_kind, row_changed, row_whole, renamed_text, other_text}
use Rattle.lam_query.proofs.renames.rename.Goals as goal
use Rattle.lam_query.proofs.renames.rename.Goals.{In-Some-binder_at, In-Err-ChangesBinding}

pub returns-then-not-is_empty-clause-refused : goal.returns-then-not-is_empty-clause-refused
returns-then-not-is_empty-clause-refused c memory = (search rules, unparsed c.args.text.now c.in_ok-parsed.parsed c.in_ok-parsed.ensures (search rules))

pub returns-in_default-clause-refused : goal.returns-in_default-clause-refused
returns-in_default-clause-refused c memory =
    (search rules, untouched c.args.text.now c.args.offset c.in_ok-parsed.parsed c.in_ok-parsed.ensures (search rules) (rw c.in_default.is at c.touched.ensures))

pub returns-in_default-binder_at-clause-refused : goal.returns-in_default-binder_at-clause-refused
returns-in_default-binder_at-clause-refused c memory =
    let of = rw c.deref.ensures.value at c.in_ok-scopes.ensures in
    (search rules, unbound_row c.args.text.now c.args.offset c.in-Some.start c.in_ok-parsed.parsed c.in_ok-scopes.scopes c.in_ok-parsed.ensures (search rules) of c.in-Some.ensures c.in_default-binder_at.ensures)

-- what is known once the binder of the name at the offset is found
found : (c : In-Some-binder_at) → HasRow c.args.text.now c.args.offset c.in_ok-parsed.parsed c.in_ok-scopes.scopes c.in-Some-binder_at.binder.0
found c = record {
  read = c.in_ok-parsed.ensures;
  none = search rules;
  of = rw c.deref.ensures.value at c.in_ok-scopes.ensures;
  start = c.in-Some.start;
  is_touched = c.in-Some.ensures;
  at = c.in-Some-binder_at.ensures;
}

pub returns-in-Ok-clause-renamed : goal.returns-in-Ok-clause-renamed
returns-in-Ok-clause-renamed c =
    let row = found (goal.at.returns-in-Ok-clause-renamed c).In-Some-binder_at in
    row_renamed _ _ c.args.new.now _ _ _ row c.in-Ok.spans.items (renamed_here _ _ c.args.new.now _ _ _ row _ c.in-Ok.ensures.renamed)

pub returns-in-Ok-clause-edited : goal.returns-in-Ok-clause-edited
returns-in-Ok-clause-edited c =
    let row = found (goal.at.returns-in-Ok-clause-edited c).In-Some-binder_at in
    renamed_text c.args.text.now c.args.offset c.args.new.now c.in-Ok.spans.items c.utf8.text c.utf8.new
    (row_renamed _ _ c.args.new.now _ _ _ row c.in-Ok.spans.items (renamed_here _ _ c.args.new.now _ _ _ row _ c.in-Ok.ensures.renamed))

pub returns-in-Ok-clause-whole_characters : goal.returns-in-Ok-clause-whole_characters
returns-in-Ok-clause-whole_characters c =
    let row = found (goal.at.returns-in-Ok-clause-whole_characters c).In-Some-binder_at in
    row_whole _ _ c.args.new.now _ _ _ row c.in-Ok.spans.items (renamed_here _ _ c.args.new.now _ _ _ row _ c.in-Ok.ensures.renamed)

pub returns-in-Err-NotAName-clause-refused : goal.returns-in-Err-NotAName-clause-refused
returns-in-Err-NotAName-clause-refused c memory any =
    let row = found (goal.at.returns-in-Err-NotAName-clause-refused c).In-Some-binder_at in
    no_name c.args.new.now (rw c.in-Err-NotAName.field-0-is at (refused_here _ _ c.args.new.now _ _ _ row c.in-Err-NotAName.field-0 c.in-Err-NotAName.ensures.refused)) any

pub returns-in-Err-WrongKind-clause-refused : goal.returns-in-Err-WrongKind-clause-refused
returns-in-Err-WrongKind-clause-refused c memory =
    let row = found (goal.at.returns-in-Err-WrongKind-clause-refused c).In-Some-binder_at in
    row_wrong_kind _ _ c.args.new.now _ _ _ row
    (rw c.in-Err-WrongKind.field-0-is at (refused_here _ _ c.args.new.now _ _ _ row c.in-Err-WrongKind.field-0 c.in-Err-WrongKind.ensures.refused))

-- the scopes refuse the name since it would change what is bound
changed : (c : In-Err-ChangesBinding) (row : HasRow c.args.text.now c.args.offset c.in_ok-parsed.parsed c.in_ok-scopes.scopes c.in-Some-binder_at.binder.0) → IsChanged c.args.text.now c.args.offset c.args.new.now
changed c row =
    let refused = rw c.in-Err-ChangesBinding.field-0-is at (refused_here _ _ c.args.new.now _ _ _ row c.in-Err-ChangesBinding.field-0 c.in-Err-ChangesBinding.ensures.refused) in
    row_changed _ _ c.args.new.now _ _ _ row refused.0 refused.1

pub returns-in-Err-ChangesBinding-clause-refused : goal.returns-in-Err-ChangesBinding-clause-refused
returns-in-Err-ChangesBinding-clause-refused c memory =
    let at = goal.at.returns-in-Err-ChangesBinding-clause-refused c in
    changed at.In-Err-ChangesBinding (found at.In-Some-binder_at)

pub returns-in-Err-ChangesBinding-clause-changed : goal.returns-in-Err-ChangesBinding-clause-changed
returns-in-Err-ChangesBinding-clause-changed c same =
    let at = goal.at.returns-in-Err-ChangesBinding-clause-changed c in
    other_text c.args.text.now c.args.offset c.args.new.now c.utf8.text c.utf8.new (changed at.In-Err-ChangesBinding (found at.In-Some-binder_at))
