-- The table of choices, their numbers, and what the phases ask of them.
use Rattle.std.specs.Prelude.{◌≡◌, ℕ, List, [], ◌∷◌, ◌++◌, ◌-◌, ◌==◌, if◌then◌else◌, length, map, replicate, slice_index, codes}
use Rattle.elk_doc.specs.declared.document.Choices.{Choices}
use Rattle.elk_doc.specs.declared.document.Slotting.{Slotting}
use Rattle.level_choices.specs.declared.choices.Choice.{Choice}
use Rattle.level_choices.specs.declared.choices.Choice.TheVariants.{Effort, Order, Straightness}
use Rattle.level_choices.specs.declared.choices.Form.{Form as FormOfCode}
use Rattle.level_choices.specs.declared.choices.Form.TheVariants as code
use Rattle.level_choices.specs.declared.choices.RowOrder.{RowOrder}
use Rattle.level_choices.specs.declared.choices.RowOrder.TheVariants.{Swept, Document, Kept}

-- ---- the table

-- the values of a choice: these words, each with the number for which it stands, or the whole numbers within these bounds
pub data Form : Type 0 where
  Words : List (List ℕ × ℕ) → Form
  Whole : ℕ → ℕ → Form

-- a row: the place of the choice's number, its shortest name, and its values
pub record Row : Type 0 where
  pub place : ℕ
  pub name : List ℕ
  pub form : Form

abbrev pub row_of : Choice → Row
row_of Effort = record { place = 0; name = codes "layered.effort"; form = Whole 1 1000 }
row_of Order =
    record {
      place = 1;
      name = codes "layered.order";
      form = Words ((codes "SWEPT", 0) ∷ (codes "DOCUMENT", 1) ∷ (codes "KEPT", 2) ∷ []);
    }
row_of Straightness = record { place = 2; name = codes "layered.straightness"; form = Whole 1 64 }

-- all choices, in the order in which a bad one is named
abbrev pub all_choices : List Choice
all_choices = Effort ∷ Order ∷ Straightness ∷ []

abbrev pub short_name : Choice → List ℕ
short_name choice = (row_of choice).name

abbrev pub elk_name : Choice → List ℕ
elk_name choice = codes "elk." ++ short_name choice

abbrev pub full_name : Choice → List ℕ
full_name choice = codes "org.eclipse.elk." ++ short_name choice

abbrev pub form_of : Choice → Form
form_of choice = (row_of choice).form

-- what a form of the code stands for
abbrev pub shown : FormOfCode → Form
shown (code.Words words) = Words (map (λ word. (word.0.now, word.1)) words.now)
shown (code.Whole low high) = Whole low high

-- ---- numbers

-- eight numbers: these, and then 0
abbrev pub filled : List ℕ → List ℕ
filled numbers = numbers ++ replicate (8 - length numbers) 0

-- the choices of a level, by the number of each choice
abbrev pub choices_with : Slotting → (Choice → ℕ) → Choices
choices_with slots number = record { slots = slots; numbers = filled (map number all_choices) }

-- the number of a choice at a level
abbrev pub number_of : Choice → Choices → ℕ
number_of choice choices = slice_index choices.numbers (row_of choice).place

-- whatever numbers the choices have, this one is read as it was written
abbrev pub IsReadAsWritten : Choice → Type 0
IsReadAsWritten choice = (slots : Slotting) (number : Choice → ℕ) → number_of choice (choices_with slots number) ≡ number choice

-- ---- what the phases ask

-- a number, or what is usual for 0
abbrev pub usual : ℕ → ℕ → ℕ
usual number otherwise = if number == 0 then otherwise else number

-- the factor on the work of the search for orders
abbrev pub effort_of : Choices → ℕ
effort_of choices = usual (number_of Effort choices) 7

abbrev pub order_from : ℕ → RowOrder
order_from number = if number == 1 then Document else (if number == 2 then Kept else Swept)

-- the order of the children of a layer
abbrev pub order_of : Choices → RowOrder
order_of choices = order_from (number_of Order choices)

-- the weight of links that alignment keeps straight, where links are placed least high together
abbrev pub straightness_of : Choices → ℕ
straightness_of choices = usual (number_of Straightness choices) 1
