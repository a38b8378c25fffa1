use Rattle.std.proofs.Common.{refl, sym, ◌∙◌, rules, None, ◌≡◌}
use Rattle.decode.proofs.Looking.{pass-broken, pass_all, pass-not}
use Rattle.decode.proofs.units_into.Goals as goal

pub returns-in_err-read : goal.returns-in_err-read
returns-in_err-read c =
    let q : c.from_residual.result ≡ None = search rules in
    pass-broken c.requires.0 c.read_into.ensures c.in_err-read.was q

pub returns-then-amounts_pass : goal.returns-then-amounts_pass
returns-then-amounts_pass c = pass_all c.requires.0 c.read_into.ensures c.in_ok-read.was (sym c.amounts_pass.ensures ∙ c.if-amounts_pass.true) refl

pub returns : goal.returns
returns c = pass-not c.requires.0 c.read_into.ensures c.in_ok-read.was (sym c.amounts_pass.ensures ∙ c.if-amounts_pass.false) refl
