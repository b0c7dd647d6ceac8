-- A line as the program keeps it.
use Rattle.asm_lines.specs.declared.statement.Statement.{Statement}
use Rattle.asm_lines.specs.declared.statement.Statement.TheVariants as statement
use Rattle.asm_lines.specs.Lines.{Line, Nothing, Label, TextSegment, DataSegment, Word, Space, Instruction, NoForm}

abbrev pub line_of_statement : Statement → Line
line_of_statement statement.Nothing = Nothing
line_of_statement (statement.Label name) = Label name.now
line_of_statement (statement.TextSegment rest) = TextSegment rest.now
line_of_statement (statement.DataSegment rest) = DataSegment rest.now
line_of_statement (statement.Word rest) = Word rest.now
line_of_statement (statement.Space rest) = Space rest.now
line_of_statement (statement.Instruction m rest) = Instruction m rest.now
line_of_statement statement.NoForm = NoForm
