-- Layouts that are the same.
use Rattle.std.specs.Prelude.{◌≡◌}
use Rattle.translate_program.specs.declared.layout.Layout.{Layout}

-- They have the same spans and blocks, and need the same.
pub record IsSameLayout (a b : Layout) : Type 0 where
  pub spans_are : a.spans.items ≡ b.spans.items
  pub blocks_are : a.blocks.items ≡ b.blocks.items
  pub need_is : a.need ≡ b.need
