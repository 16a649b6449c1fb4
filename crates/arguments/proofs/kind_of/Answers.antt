-- `arguments::kind_of` meets its contract. Assumes nothing.
use mathlib.Core.Path.{sym, ◌∙◌}
use Rattle.arguments.specs.Arguments.{kind_of}
use Rattle.arguments.proofs.Signs.{names}
use Rattle.arguments.proofs.kind_of.Goals as goal

pub returns-then-starts_with : goal.returns-then-starts_with
unfolding kind_of
returns-then-starts_with c = rw (sym (names c.args.arg.now) ∙ sym c.starts_with.ensures.value ∙ c.if-starts_with.true)

pub returns-then-same_bytes : goal.returns-then-same_bytes
unfolding kind_of
returns-then-same_bytes c =
    rw (
      sym (names c.args.arg.now) ∙ sym c.starts_with.ensures.value ∙ c.if-starts_with.false,
      sym c.same_bytes.ensures ∙ c.if-same_bytes.true,
    )

pub returns : goal.returns
unfolding kind_of
returns c =
    rw (
      sym (names c.args.arg.now) ∙ sym c.starts_with.ensures.value ∙ c.if-starts_with.false,
      sym c.same_bytes.ensures ∙ c.if-same_bytes.false,
    )
