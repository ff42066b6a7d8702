use Rattle.typing_state.proofs.Going.{goes_refl}
use Rattle.std.proofs.Common.{◌≡◌, ◌∙◌, List, [], ◌∷◌, true, refl, ap, length, rules}
use Rattle.std.specs.Prelude.{◌==◌}
use Rattle.type_terms.specs.declared.types.Origin.{Origin}
use Rattle.type_reading.specs.Copying.{paths_of}
use Rattle.sig_template.proofs.Same.{shared_same, copied_same}
use Rattle.sig_template.proofs.templates.made_at.Goals as goal

-- where no paths are made there are no origins
none_made : (os : List Origin) → paths_of os ≡ [] → length os ≡ 0
none_made [] e = refl
none_made (o ∷ os) e = absurd (cc)

pub returns-then-is_empty-clause-sig : goal.returns-then-is_empty-clause-sig
returns-then-is_empty-clause-sig c = λ live.
    let none : length c.args.template.now.made.items ≡ 0 = search rules in
    shared_same c.args.at.now.store.nodes c.args.template.now.made.items c.args.node c.args.template.now.sig.value c.in_ok-share_sig.field-0.value c.in_ok-share_sig.ensures none live

pub returns-clause-sig : goal.returns-clause-sig
returns-clause-sig c =
    copied_same c.args.at.now.store.nodes c.changed.new.at.store.nodes (paths_of c.args.template.now.made.items) (paths_of c.in_ok-copied_origins.field-0.items) c.args.node c.new.result.items
    c.args.template.now.sig.value c.deref-3.result.now c.in_ok-changed.field-0.value (c.in_ok-copied_origins.ensures ∙ ap paths_of c.deref-2.ensures.value) c.deref-3.ensures c.new.ensures.items
    c.in_ok-changed.ensures.changed

pub returns-in_err-made-clause-goes : goal.returns-in_err-made-clause-goes
returns-in_err-made-clause-goes c = goes_refl c.args.at.now

pub returns-in_err-share_sig-clause-goes : goal.returns-in_err-share_sig-clause-goes
returns-in_err-share_sig-clause-goes c = goes_refl c.args.at.now

pub returns-then-is_empty-clause-goes : goal.returns-then-is_empty-clause-goes
returns-then-is_empty-clause-goes c = goes_refl c.args.at.now

pub returns-in_err-copied_origins-clause-goes : goal.returns-in_err-copied_origins-clause-goes
returns-in_err-copied_origins-clause-goes c = goes_refl c.args.at.now

pub returns-in_err-changed-clause-goes : goal.returns-in_err-changed-clause-goes
returns-in_err-changed-clause-goes c = c.changed.ensures.goes

pub returns-clause-goes : goal.returns-clause-goes
returns-clause-goes c = c.changed.ensures.goes

pub returns-then-is_empty-clause-same : goal.returns-then-is_empty-clause-same
returns-then-is_empty-clause-same c = λ none. (c.in_ok-share_sig.ensures, refl)

pub returns-clause-same : goal.returns-clause-same
returns-clause-same c = λ none. absurd (
    let f = c.if-is_empty.false in
    let h : c.is_empty.result ≡ true = c.is_empty.ensures ∙ ap (λ n. n == 0) (c.args.template.now.made.ok.0 ∙ none_made c.args.template.now.made.items none) in cc
    )
