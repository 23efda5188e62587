-- What is said of images, and how often in a row. Assumes nothing.
use Rattle.std.specs.Prelude.{ℕ, zero, suc, ◌+◌, Bool, false, ◌&&◌, cond, List, length, take, ltb, eqb, Option, None, Some, option_map}
use Rattle.image_format.specs.Reading.{Layout, right, refused}
use Rattle.image_format.specs.Check.{check_image}
use Rattle.fields.specs.Answers.{layout_of}
use Rattle.test_image_vectors.specs.declared.page.Said.{Said}

-- what is said of images in a row, and of how many
pub record Saying : Type 0 where
  pub times : ℕ
  pub layout : Layout

abbrev pub saying_of : Said → Saying
saying_of s = record { times = s.times; layout = layout_of s.verdict }

abbrev pub said_in : Option Said → Option Saying
said_in o = option_map saying_of o

-- the same is said
abbrev pub same_layout : Layout → Layout → Bool
same_layout (right nodes entries) (right nodes' entries') = eqb nodes nodes' && eqb entries entries'
same_layout (right nodes entries) (refused n) = false
same_layout (refused n) (right nodes entries) = false
same_layout (refused n) (refused n') = eqb n n'

-- the same once more, at most a million times in a row, or what is said next
abbrev pub said_after : Option Saying → Layout → Option Saying
said_after None l = Some (record { times = 1; layout = l })
said_after (Some s) l = Some (cond (same_layout s.layout l && ltb s.times 1000000) (record { times = s.times + 1; layout = s.layout }) (record { times = 1; layout = l }))

-- k parts of an image from its start: of n bytes, of one more, and so on
unfoldable pub said_parts : List ℕ → ℕ → ℕ → Option Saying → Option Saying
said_parts img zero n s = s
said_parts img (suc k) n s = said_parts img k (n + 1) (said_after s (check_image (take n img)))

-- an image, and before it every part of it where they are asked for
unfoldable pub said_whole : List ℕ → Option Saying → Bool → Option Saying
said_whole img last parts = said_after (cond parts (said_parts img (length img) 0 last) last) (check_image img)
