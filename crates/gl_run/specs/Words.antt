-- Which command the words ask for.
use Rattle.std.specs.Prelude.{ℕ, List, [], ◌∷◌, Option, Some, None, bytes_eq, codes, if◌then◌else◌}
use Rattle.gl_asm.specs.declared.limits.TheConstants.{LONGEST}
use Rattle.gl_audited.specs.declared.limits.TheConstants.{AUDIT_BYTES}
use Rattle.gl_threads.specs.Options.{AreOptions}
use Rattle.gl_trace.specs.declared.limits.TheConstants.{TRACE_BYTES}
use Rattle.gl_run.specs.declared.words.Command.{Command}
use Rattle.gl_run.specs.declared.words.Command.TheVariants as commands
use Rattle.gl_words.specs.Options.{Word}
use Rattle.gl_run.specs.Options.{IsLoad, load_options, run_options}
use Rattle.gl_run.specs.declared.options.LoadOptions.{LoadOptions}
use Rattle.gl_run.specs.declared.options.RunOptions.{RunOptions}

abbrev pub as_run : Option RunOptions → Option Command
as_run None = None
as_run (Some options) = Some (commands.Run options)

abbrev pub as_load : Option LoadOptions → Option Command
as_load None = None
as_load (Some load) = Some (commands.Load load)

-- the options of the command are within their limits
abbrev pub HasLimits : Command → Type 0
HasLimits commands.Check = Unit {0}
HasLimits commands.List = Unit {0}
HasLimits (commands.Run options) = AreOptions options.threads
HasLimits (commands.Load load) = IsLoad load
HasLimits commands.Audit = Unit {0}

-- a command without options
abbrev pub alone : List Word → Command → Option Command
alone [] command = Some command
alone (option ∷ more) command = None

-- the command of this name with these options
abbrev pub command_named : Word → List Word → Option Command
command_named word options =
    if bytes_eq word (codes "check") then alone options commands.Check
    else if bytes_eq word (codes "list") then alone options commands.List
    else if bytes_eq word (codes "run") then as_run (run_options options)
    else if bytes_eq word (codes "load") then as_load (load_options options)
    else if bytes_eq word (codes "audit") then alone options commands.Audit
    else None

-- the words are a program's name, which is not looked at, a command and its options
abbrev pub command_of : List Word → Option Command
command_of [] = None
command_of (name ∷ []) = None
command_of (name ∷ word ∷ options) = command_named word options

-- the commands that read a text and run nothing
abbrev pub text_part : Option Command → Option Command
text_part None = None
text_part (Some commands.Check) = Some commands.Check
text_part (Some commands.List) = Some commands.List
text_part (Some (commands.Run options)) = None
text_part (Some (commands.Load load)) = None
text_part (Some commands.Audit) = Some commands.Audit

-- the commands that run a program
abbrev pub run_part : Option Command → Option Command
run_part None = None
run_part (Some commands.Check) = None
run_part (Some commands.List) = None
run_part (Some (commands.Run options)) = Some (commands.Run options)
run_part (Some (commands.Load load)) = Some (commands.Load load)
run_part (Some commands.Audit) = None

abbrev pub text_command_of : List Word → Option Command
text_command_of words = text_part (command_of words)

abbrev pub run_command_of : List Word → Option Command
run_command_of words = run_part (command_of words)

-- the most bytes that are read for these words, where they ask for a command that reads
abbrev pub most_of : Option Command → Option ℕ
most_of None = None
most_of (Some commands.Check) = Some TRACE_BYTES
most_of (Some commands.List) = Some LONGEST
most_of (Some (commands.Run options)) = Some LONGEST
most_of (Some (commands.Load load)) = None
most_of (Some commands.Audit) = Some AUDIT_BYTES
