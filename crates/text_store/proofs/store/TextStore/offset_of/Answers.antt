use Rattle.std.proofs.Common.{◌≡◌, ◌≤◌, ℕ, length, Option, Some, None, Result, IfOk, sym, subst, refl}
use Rattle.std.specs.Option.{ok_or}
use Rattle.text_model.specs.Positions.{offset, position_of}
use Rattle.text_model.proofs.Positions.{position_of-offset, offset-le}
use Rattle.text_store.proofs.store.TextStore.offset_of.Goals as goal

-- What holds of each offset that a position has holds of the one found.
found : {E : Type 0} (r : Result ℕ E) (o : Option ℕ) (e : E) (P : ℕ → Type 0) → r ≡ ok_or o e → ((n : ℕ) → o ≡ Some n → P n) → IfOk r P
found r None e P is h = subst (λ q. IfOk q P) (sym is) tt
found r (Some n) e P is h = subst (λ q. IfOk q P) (sym is) (h n refl)

pub returns-clause-within : goal.returns-clause-within
returns-clause-within c =
    found c.ok_or.result (offset c.args.self.now c.args.at.line c.args.at.col) _ (λ n. n ≤ length c.args.self.now)
    (cc) (offset-le c.args.self.now c.args.at.line c.args.at.col)

pub returns-clause-back : goal.returns-clause-back
returns-clause-back c =
    found c.ok_or.result (offset c.args.self.now c.args.at.line c.args.at.col) _ (λ n. position_of c.args.self.now n ≡ (c.args.at.line, c.args.at.col))
    (cc) (position_of-offset c.args.self.now c.args.at.line c.args.at.col)
