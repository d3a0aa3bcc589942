-- Values in layers.
use Rattle.std.specs.Prelude.{List}
use Rattle.uq_value.specs.declared.value.Value.{Value}

pub record Layered : Type 0 where
  -- what lies under the upper layer
  pub under : List Value
  -- the upper layer
  pub here : List Value
