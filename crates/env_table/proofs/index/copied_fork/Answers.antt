use Rattle.std.proofs.Common.{[], ◌∷◌, true, false, ◌∙◌, sym}
use Rattle.env_table.proofs.Forks.{rolled_at, opened_at}
use Rattle.env_table.proofs.index.copied_fork.Goals as goal

pub returns : goal.returns
returns c [] = rolled_at _ [] ∙ (c.in_ok-share_links.ensures ∙ sym (opened_at c.args.fork.now []))
returns c (true ∷ ks) = rolled_at _ (true ∷ ks) ∙ (c.in_ok-share-2.ensures ks ∙ sym (opened_at c.args.fork.now (true ∷ ks)))
returns c (false ∷ ks) = rolled_at _ (false ∷ ks) ∙ (c.in_ok-share.ensures ks ∙ sym (opened_at c.args.fork.now (false ∷ ks)))
