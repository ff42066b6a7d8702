use Rattle.std.proofs.Common.{◌≡◌, ◌∙◌, ◌+◌, List, [], ◌∷◌, ◌++◌, reverse, drop, sym, ap, append_assoc}
use Rattle.std.proofs.lemmas.Grind.{reverse_onto}
use Rattle.std.proofs.lemmas.List.{drop_more, drop_all}
use Rattle.env_table.specs.declared.entries.Entry.{Entry}
use Rattle.decl_typing.specs.Entries.{values_of}
use Rattle.decl_typing.proofs.decls.with_entries.Goals as goal

-- the first of some is entered before the others
one_entered : (e : Entry) (es env : List Entry) → reverse (e ∷ es) ++ env ≡ reverse es ++ e ∷ env
one_entered e es env = ap (λ (fs : List Entry). fs ++ env) (reverse_onto es e []) ∙ append_assoc (reverse es) (e ∷ []) env

pub loop-entry-init : goal.loop-entry-init
loop-entry-init c = ap (λ env. reverse (values_of c.args.entries.now) ++ env) c.in_ok-inner.ensures

pub loop-entry-preserved : goal.loop-entry-preserved
loop-entry-preserved c =
    let k = c.loop-entry.entry-index in
    let e = c.entry-item.result in
    let left = drop (k + 1) c.args.entries.now in
    let put = c.in_ok-inner-2.ensures ∙ ap (λ v. v ∷ c.loop-entry.inner) c.in_ok-share_entry.ensures in
    let more = drop_more c.args.entries.now k e c.loop-entry-test.true ∙ ap (λ q. q ∷ left) (sym c.entry-item.is) in
    ap (λ i. reverse (values_of left) ++ i) put ∙ sym (one_entered e.value (values_of left) c.loop-entry.inner) ∙ ap (λ es. reverse (values_of es) ++ c.loop-entry.inner) (sym more) ∙ c.loop-entry.invariant

pub returns : goal.returns
returns c = ap (λ es. reverse (values_of es) ++ c.loop-entry.inner) (sym (drop_all c.loop-entry.entry-index c.args.entries.now c.loop-entry-test.false)) ∙ c.loop-entry.invariant
