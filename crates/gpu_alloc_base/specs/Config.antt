-- The default configurations, in bytes.
use Rattle.gpu_alloc_base.specs.declared.config.Config.{Config}

-- for a device with very little memory
abbrev pub potato : Config
potato = record {
  dedicated_threshold = 32768;
  preferred_dedicated_threshold = 1024;
  transient_dedicated_threshold = 131072;
  starting_free_list_chunk = 8192;
  final_free_list_chunk = 131072;
  minimal_buddy_size = 1;
  initial_buddy_dedicated_size = 8192;
}

-- to begin with
abbrev pub prototyping : Config
prototyping = record {
  dedicated_threshold = 33554432;
  preferred_dedicated_threshold = 1048576;
  transient_dedicated_threshold = 134217728;
  starting_free_list_chunk = 8388608;
  final_free_list_chunk = 134217728;
  minimal_buddy_size = 1024;
  initial_buddy_dedicated_size = 8388608;
}
