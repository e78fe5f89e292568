mod Managed
